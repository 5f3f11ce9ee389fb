-- the users so far
use Rattle.std.proofs.Common.{◌≡◌, map, take}
use Rattle.compare.specs.Members.{member_owns, row_owns, user_of}
use Rattle.compare.proofs.members.members_of.Given as goal

abbrev pub invariant-loop-at : goal.invariant-loop-at
invariant-loop-at l = (map user_of l.members.items ≡ take l.at l.users) × (map member_owns l.members.items ≡ take l.at (map row_owns l.rows))
