-- the places of the users so far are added
use Rattle.std.proofs.Common.{◌≡◌, ◌++◌, map, take}
use Rattle.compare.specs.Members.{owns, row_owns}
use Rattle.compare.proofs.members.add_rows.Given as goal

abbrev pub invariant-loop-user : goal.invariant-loop-user
invariant-loop-user l = map row_owns l.rows.items ≡ map row_owns l.initial.rows.items ++ map owns (take l.user-index l.users)
