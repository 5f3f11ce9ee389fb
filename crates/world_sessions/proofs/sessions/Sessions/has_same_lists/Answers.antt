-- the answer beside the session is the answer
use Rattle.std.proofs.Common.{false, sym}
use Rattle.world_sessions.proofs.Beside.{answer_at}
use Rattle.world_sessions.proofs.sessions.Sessions.has_same_lists.Goals as goal

pub returns-in-Some-get : goal.returns-in-Some-get
returns-in-Some-get c =
    answer_at _ c.args.conn c.in-Some.place c.args.same.now c.in-Some-get.answer.now c.in-Some.ensures (sym (c.in-Some-get.ensures.lookup.3.1 false))
