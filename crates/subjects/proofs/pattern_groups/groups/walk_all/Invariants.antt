-- those so far that pass
use Rattle.std.proofs.Common.{◌≡◌, filter}
use Rattle.std.specs.List.{range_with_len}
use Rattle.subjects.proofs.pattern_groups.groups.walk_all.Given as goal

abbrev pub invariant-loop-index : goal.invariant-loop-index
invariant-loop-index g l = l.all.items ≡ filter (g.P.Patterns.passes l.patterns) (range_with_len 0 l.index)
