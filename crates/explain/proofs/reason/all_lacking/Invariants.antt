-- the entries so far, and those of what is left, are all entries
use Rattle.std.proofs.Common.{◌≡◌, ◌++◌, drop}
use Rattle.explain.specs.Reason.{lacks_subject, uncovered_by, uncovered_from}
use Rattle.explain.proofs.reason.all_lacking.Given as goal

abbrev pub invariant-loop-index : goal.invariant-loop-index
invariant-loop-index l =
    l.all.items ++ uncovered_from l.index (lacks_subject l.subject) (drop l.index l.entries) ≡ uncovered_by (lacks_subject l.subject) l.entries
