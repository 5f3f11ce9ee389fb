-- the rows of the accounts so far hold
use Rattle.std.proofs.Common.{◌≡◌, drop}
use Rattle.policy_doc.specs.Imports.{fault_in_imports}
use Rattle.policy_doc.proofs.import_rows.fault_in_imports.Given as goal

abbrev pub invariant-loop-account : goal.invariant-loop-account
invariant-loop-account l = fault_in_imports l.accounts 0 l.accounts ≡ fault_in_imports l.accounts l.account (drop l.account l.accounts)
