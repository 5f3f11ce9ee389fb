-- what is left of the frames, once it has had its turns, completes the whole
use Rattle.std.proofs.Common.{◌≡◌, false, length}
use Rattle.session_plan.specs.Replies.{is_closed}
use Rattle.session_conn.specs.Turns.{port_of}
use Rattle.session_conn.specs.Serving.{spot}
use Rattle.session_conn.specs.Running.{Completes, IsAhead}
use Rattle.session_conn.proofs.serve.serve_all.Given as goal

abbrev pub invariant-loop-context : goal.invariant-loop-context
invariant-loop-context g l =
    let start = spot l.initial.port l.initial.words l.context.stage l.context.word in
    record {
      place : g.P.Port.place l.port ≡ g.P.Port.place l.initial.port;
      turns : Completes (port_of g.P.Port.steps g.P.Port.posts g.P.Port.holds) g.W.Words.draws l.context.moment l.context.conn l.initial.frames start l.bytes.items l.frames (spot l.port l.words l.stage l.word);
      ahead : is_closed l.stage ≡ false → IsAhead l.stage l.ahead.room l.frames l.ahead.messages.items;
    }

abbrev pub decreases-loop-context : goal.decreases-loop-context
decreases-loop-context g l = length l.frames
