-- the lines of the changes so far
use Rattle.std.proofs.Common.{◌≡◌, map, take}
use Rattle.std.specs.Prelude.{All}
use Rattle.compare.specs.Members.{user_of}
use Rattle.compare.specs.Users.{line_by, line_of, IsLine}
use Rattle.compare.proofs.lists.lines_of.Given as goal

abbrev pub invariant-loop-change : goal.invariant-loop-change
invariant-loop-change l = (map line_of l.lines.items ≡ map line_by (take l.change-index l.found)) × All (IsLine (user_of l.pair.old.1) (user_of l.pair.new.1)) l.lines.items
