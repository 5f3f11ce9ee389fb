-- the entries so far, and those of what is left, are all entries
use Rattle.std.proofs.Common.{◌≡◌, ◌++◌, drop}
use Rattle.std.specs.Option.{option_copied}
use Rattle.explain.specs.Reason.{lacks_pattern, uncovered_by, uncovered_from}
use Rattle.explain.proofs.reason.those_lacking.Given as goal

abbrev pub invariant-loop-index : goal.invariant-loop-index
invariant-loop-index l =
    l.all.items ++ uncovered_from l.index (lacks_pattern l.pattern (option_copied l.queue)) (drop l.index l.entries) ≡ uncovered_by (lacks_pattern l.pattern (option_copied l.queue)) l.entries
