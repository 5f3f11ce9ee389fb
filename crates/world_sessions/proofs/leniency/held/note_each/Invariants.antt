-- who of the items so far
use Rattle.std.proofs.Common.{◌≡◌, ◌++◌, take}
use Rattle.world_sessions.specs.leniency.Held.{held_among}
use Rattle.world_sessions.proofs.leniency.held.note_each.Given as goal

abbrev pub invariant-loop-item : goal.invariant-loop-item
invariant-loop-item g l = l.held.items ≡ l.initial.held.items ++ held_among (g.T.Lenient.terms l.lenient) l.sessions (take l.item-index l.items)
