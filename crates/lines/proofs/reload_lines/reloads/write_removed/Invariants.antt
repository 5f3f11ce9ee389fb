use Rattle.std.proofs.Common.{◌≡◌, ◌++◌, drop, flat_map}
use Rattle.lines.specs.reload_lines.Reloads.{removed_line}
use Rattle.lines.proofs.reload_lines.reloads.write_removed.Given as goal

-- the lines so far, and those of what is left, are all lines
abbrev pub invariant-loop-one : goal.invariant-loop-one
invariant-loop-one l = l.out.items ++ flat_map removed_line (drop l.one-index l.removed) ≡ l.fn.out.items ++ flat_map removed_line l.removed
