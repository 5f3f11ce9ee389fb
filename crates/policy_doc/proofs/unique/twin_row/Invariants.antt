-- the users so far, behind those of the earlier accounts, have unique names
use Rattle.std.proofs.Common.{◌++◌, take}
use Rattle.policy_doc.specs.Document.{users_of, HaveUniqueNames}
use Rattle.policy_doc.proofs.unique.twin_row.Given as goal

abbrev pub invariant-loop-row : goal.invariant-loop-row
invariant-loop-row l = HaveUniqueNames (users_of l.earlier ++ take l.row l.users)
