-- what is left has the same token for the number that is left
use Rattle.std.proofs.Common.{◌≡◌, ◌≤◌, length}
use Rattle.mapping.specs.Pairs.{numbered, stars_of}
use Rattle.mapping.proofs.one_way.filling.star_in.Given as goal

abbrev pub invariant-loop-place : goal.invariant-loop-place
invariant-loop-place l = record {
  token : numbered (stars_of l.places l.tokens) l.left ≡ numbered (stars_of l.pattern l.subject) l.fn.number;
  some : 1 ≤ l.left;
}

abbrev pub decreases-loop-place : goal.decreases-loop-place
decreases-loop-place l = length l.places
