-- what is left of both decides the same as the whole
use Rattle.std.proofs.Common.{◌≡◌, length}
use Rattle.subjects.specs.Subject.{overlaps}
use Rattle.subjects.proofs.compare.overlaps.Given as goal

abbrev pub invariant-loop-q : goal.invariant-loop-q
invariant-loop-q l = overlaps l.first l.second ≡ overlaps l.fn.first l.fn.second

abbrev pub decreases-loop-q : goal.decreases-loop-q
decreases-loop-q l = length l.first
