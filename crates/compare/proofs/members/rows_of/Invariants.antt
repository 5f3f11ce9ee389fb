-- the places of the accounts' users so far
use Rattle.std.proofs.Common.{◌≡◌, map, take}
use Rattle.std.specs.List.{flat_map}
use Rattle.compare.specs.Members.{owns_in, row_owns}
use Rattle.compare.proofs.members.rows_of.Given as goal

abbrev pub invariant-loop-named : goal.invariant-loop-named
invariant-loop-named l = map row_owns l.rows.items ≡ flat_map owns_in (take l.named-index l.named-items)
