-- the hashes of the rows so far
use Rattle.std.proofs.Common.{◌≡◌, take, map}
use Rattle.policy_ready.specs.imports.Rows.{row_hash}
use Rattle.policy_ready.proofs.imports.making.groups_of.Given as goal

abbrev pub invariant-loop-row : goal.invariant-loop-row
invariant-loop-row l = l.hashes.items ≡ map row_hash (take l.row-index l.rows)
