-- what is left has the same pieces exactly where all have
use Rattle.std.proofs.Common.{◌≡◌, length}
use Rattle.base.proofs.equality.are_same_pieces.Given as goal

abbrev pub invariant-loop-piece : goal.invariant-loop-piece
invariant-loop-piece l = (l.some ≡ l.others → l.initial.some ≡ l.initial.others) × (l.initial.some ≡ l.initial.others → l.some ≡ l.others)

abbrev pub decreases-loop-piece : goal.decreases-loop-piece
decreases-loop-piece l = length l.some
