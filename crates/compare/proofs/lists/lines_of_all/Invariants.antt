-- the lines of the users so far
use Rattle.std.proofs.Common.{map, take}
use Rattle.compare.specs.Members.{user_of}
use Rattle.compare.specs.Users.{AreLinesOfAll}
use Rattle.compare.proofs.lists.lines_of_all.Given as goal

abbrev pub invariant-loop-member : goal.invariant-loop-member
invariant-loop-member l = AreLinesOfAll l.old.0.now (map user_of (take l.member-index l.members)) l.all.items
