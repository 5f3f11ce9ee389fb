-- what is left has the same tail
use Rattle.std.proofs.Common.{◌≡◌, length}
use Rattle.mapping.specs.Pairs.{tail_of}
use Rattle.mapping.proofs.one_way.filling.tail_in.Given as goal

abbrev pub invariant-loop-place : goal.invariant-loop-place
invariant-loop-place l = tail_of l.places l.tail ≡ tail_of l.pattern l.subject

abbrev pub decreases-loop-place : goal.decreases-loop-place
decreases-loop-place l = length l.places
