-- what is found and what is left give the whole
use Rattle.std.proofs.Common.{◌≡◌, ◌++◌, length, map}
use Rattle.mapping.specs.Pairs.{stars_of, tail_of}
use Rattle.mapping.proofs.given.Given.of.Given as goal

abbrev pub invariant-loop-place : goal.invariant-loop-place
invariant-loop-place l = record {
  stars : map (λ s. s.now) l.stars.items ++ stars_of l.places l.tail ≡ stars_of l.pattern l.subject;
  tail : tail_of l.places l.tail ≡ tail_of l.pattern l.subject;
}

abbrev pub decreases-loop-place : goal.decreases-loop-place
decreases-loop-place l = length l.places
