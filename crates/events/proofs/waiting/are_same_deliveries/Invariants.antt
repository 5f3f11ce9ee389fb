-- what is left has the same deliveries exactly where all have
use Rattle.std.proofs.Common.{◌≡◌, length}
use Rattle.events.proofs.waiting.are_same_deliveries.Given as goal

abbrev pub invariant-loop-delivery : goal.invariant-loop-delivery
invariant-loop-delivery l = (l.some ≡ l.others → l.initial.some ≡ l.initial.others) × (l.initial.some ≡ l.initial.others → l.some ≡ l.others)

abbrev pub decreases-loop-delivery : goal.decreases-loop-delivery
decreases-loop-delivery l = length l.some
