use Rattle.std.proofs.Common.{◌≡◌, ◌++◌, drop, flat_map}
use Rattle.lines.specs.reload_lines.Reloads.{gone_line}
use Rattle.lines.proofs.reload_lines.reloads.write_gone.Given as goal

-- the lines so far, and those of what is left, are all lines
abbrev pub invariant-loop-conn : goal.invariant-loop-conn
invariant-loop-conn l = l.out.items ++ flat_map gone_line (drop l.conn-index l.gone) ≡ l.fn.out.items ++ flat_map gone_line l.gone
