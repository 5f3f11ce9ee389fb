-- the lines so far, and those of what is left, are all lines
use Rattle.std.proofs.Common.{◌≡◌, ◌++◌, drop, flat_map}
use Rattle.explain.specs.Lines.{uncovered_line}
use Rattle.explain.proofs.explanation.write_outside.Given as goal

abbrev pub invariant-loop-one : goal.invariant-loop-one
invariant-loop-one l = l.out.items ++ flat_map uncovered_line (drop l.one-index l.all) ≡ l.fn.out.items ++ flat_map uncovered_line l.all
