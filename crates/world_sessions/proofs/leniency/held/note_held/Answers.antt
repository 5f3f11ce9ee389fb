-- no item tells of a full outbox, and it doesn't count how much waits
use Rattle.std.proofs.Common.{◌∙◌, sym}
use Rattle.world_sessions.proofs.leniency.Kept.{same_held}
use Rattle.world_sessions.proofs.leniency.held.note_held.Goals as goal

pub returns-else-is_some : goal.returns-else-is_some
returns-else-is_some g c =
    same_held (g.T.Lenient.terms c.args.lenient.now) c.args.sessions.now c.args.items.now c.args.held.now.items c.room.result c.room.ensures
    (sym c.is_some.ensures ∙ c.if-is_some.false) (sym c.is_any_full.ensures ∙ c.if-is_any_full.false)
