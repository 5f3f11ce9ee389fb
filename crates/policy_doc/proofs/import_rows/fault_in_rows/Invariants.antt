-- the rows so far hold
use Rattle.std.proofs.Common.{◌≡◌, drop}
use Rattle.policy_doc.specs.Imports.{fault_in_rows}
use Rattle.policy_doc.proofs.import_rows.fault_in_rows.Given as goal

abbrev pub invariant-loop-row : goal.invariant-loop-row
invariant-loop-row l =
    fault_in_rows l.accounts l.named.name l.account 0 l.named.account.imports
    ≡ fault_in_rows l.accounts l.named.name l.account l.row (drop l.row l.named.account.imports)
