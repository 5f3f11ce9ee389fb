-- the users of the accounts so far have unique names
use Rattle.std.proofs.Common.{take}
use Rattle.policy_doc.specs.Document.{users_of, HaveUniqueNames}
use Rattle.policy_doc.proofs.unique.searched_twin.Given as goal

abbrev pub invariant-loop-account : goal.invariant-loop-account
invariant-loop-account l = HaveUniqueNames (users_of (take l.account l.accounts))
