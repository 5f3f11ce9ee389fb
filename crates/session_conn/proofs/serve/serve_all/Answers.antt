-- the turns go on to the next, or end them all
use Rattle.std.proofs.Common.{◌∙◌, ℕ, None, List, refl, sym, subst}
use Rattle.wire_read.specs.declared.frame.Frame.{Frame}
use Rattle.session_conn.specs.declared.serve.Served.{Served}
use Rattle.session_conn.specs.Turns.{port_of}
use Rattle.session_conn.specs.Serving.{spot, served, Serves}
use Rattle.session_conn.specs.Running.{Completes}
use Rattle.session_conn.proofs.Runs.{completes_start, closed_at, completes_end, went_on}
use Rattle.session_conn.proofs.Gathered.{none_ahead}
use Rattle.session_conn.proofs.serve.serve_all.Goals as goal

pub loop-context-init : goal.loop-context-init
loop-context-init g c =
    let start = spot c.args.port.now c.args.words.now c.args.context.stage c.args.context.word in
    record {
      place = refl;
      turns = subst (λ (x : List ℕ). Completes (port_of g.P.Port.steps g.P.Port.posts g.P.Port.holds) g.W.Words.draws c.args.context.moment c.args.context.conn c.args.frames.now start x c.args.frames.now start)
          (sym c.new-bytes.ensures.items) (completes_start (port_of g.P.Port.steps g.P.Port.posts g.P.Port.holds) g.W.Words.draws c.args.context.moment c.args.context.conn c.args.frames.now start);
      ahead = λ still. none_ahead c.args.context.stage c.new-ahead.result.room c.args.frames.now c.new-ahead.result.messages.items c.new-ahead.ensures;
    }

pub returns-then-is_closed-clause-served : goal.returns-then-is_closed-clause-served
returns-then-is_closed-clause-served g c =
    let start = spot c.args.port.now c.args.words.now c.args.context.stage c.args.context.word in
    let at = spot c.loop-context.port c.loop-context.words c.loop-context.stage c.loop-context.word in
    subst (λ (s : Served). Serves (port_of g.P.Port.steps g.P.Port.posts g.P.Port.holds) g.W.Words.draws c.args.context.moment c.args.context.conn c.args.frames.now start (served s.bytes.items c.clear.new.self s.stall (spot c.loop-context.port c.loop-context.words s.stage s.word)))
    (sym c.new.ensures)
    (subst (λ (x : List Frame). Serves (port_of g.P.Port.steps g.P.Port.posts g.P.Port.holds) g.W.Words.draws c.args.context.moment c.args.context.conn c.args.frames.now start (served c.loop-context.bytes.items x None at))
    (sym c.clear.ensures)
    (closed_at (port_of g.P.Port.steps g.P.Port.posts g.P.Port.holds) g.W.Words.draws c.args.context.moment c.args.context.conn c.args.frames.now start c.loop-context.bytes.items c.loop-context.frames at
    c.loop-context.invariant.turns (sym c.is_closed.ensures ∙ c.if-is_closed.true)))

pub loop-context-preserved : goal.loop-context-preserved
loop-context-preserved g c =
    let start = spot c.args.port.now c.args.words.now c.args.context.stage c.args.context.word in
    let at = spot c.loop-context.port c.loop-context.words c.loop-context.stage c.loop-context.word in
    record {
      place = c.in-Goes.ensures.place ∙ c.loop-context.invariant.place;
      turns = went_on (port_of g.P.Port.steps g.P.Port.posts g.P.Port.holds) g.W.Words.draws c.args.context.moment c.args.context.conn c.args.frames.now start c.loop-context.bytes.items c.loop-context.frames at
          c.in-Goes.after c.take_turns.new.out.items c.take_turns.new.frames c.take_turns.new.port c.take_turns.new.words c.loop-context.invariant.turns c.in-Goes.ensures.went;
      ahead = c.in-Goes.ensures.ahead;
    }

pub returns-clause-served : goal.returns-clause-served
returns-clause-served g c =
    let start = spot c.args.port.now c.args.words.now c.args.context.stage c.args.context.word in
    let at = spot c.loop-context.port c.loop-context.words c.loop-context.stage c.loop-context.word in
    subst (λ (s : Served). Serves (port_of g.P.Port.steps g.P.Port.posts g.P.Port.holds) g.W.Words.draws c.args.context.moment c.args.context.conn c.args.frames.now start (served s.bytes.items c.loop-context.frames s.stall (spot c.loop-context.port c.loop-context.words s.stage s.word)))
    (sym c.new-2.ensures)
    (completes_end (port_of g.P.Port.steps g.P.Port.posts g.P.Port.holds) g.W.Words.draws c.args.context.moment c.args.context.conn c.args.frames.now start c.loop-context.bytes.items at
    c.loop-context.frames (c.loop-context-test.ensures.0 refl) c.loop-context.invariant.turns)
