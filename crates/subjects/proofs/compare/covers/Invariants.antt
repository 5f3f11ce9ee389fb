-- what is left of both decides the same as the whole
use Rattle.std.proofs.Common.{◌≡◌, length}
use Rattle.subjects.specs.Subject.{covers}
use Rattle.subjects.proofs.compare.covers.Given as goal

abbrev pub invariant-loop-q : goal.invariant-loop-q
invariant-loop-q l = covers l.first l.second ≡ covers l.fn.first l.fn.second

abbrev pub decreases-loop-q : goal.decreases-loop-q
decreases-loop-q l = length l.first
