-- what is left of both decides the same as the whole
use Rattle.std.proofs.Common.{◌≡◌, length}
use Rattle.subjects.specs.Subject.{in_set}
use Rattle.subjects.proofs.compare.in_set.Given as goal

abbrev pub invariant-loop-p : goal.invariant-loop-p
invariant-loop-p l = in_set l.pattern l.subject ≡ in_set l.fn.pattern l.fn.subject

abbrev pub decreases-loop-p : goal.decreases-loop-p
decreases-loop-p l = length l.pattern
