-- what is left is what was
use Rattle.std.proofs.Common.{◌≡◌, drop, flat_map, length}
use Rattle.events.specs.Waiting.{each}
use Rattle.events.proofs.waiting.Deliveries.next.Given as goal

abbrev pub invariant-loop-self : goal.invariant-loop-self
invariant-loop-self l = drop l.self-inside.given (flat_map each l.self-inside.left.now) ≡ l.fn.self

abbrev pub decreases-loop-self : goal.decreases-loop-self
decreases-loop-self l = length l.self-inside.left.now
