use Rattle.std.proofs.Common.{◌≡◌, drop}
use Rattle.fault_lines.specs.Documents.{with_import_faults}
use Rattle.fault_lines.proofs.document.push_imports.Given as goal

abbrev pub invariant-loop-account : goal.invariant-loop-account
invariant-loop-account l =
    with_import_faults l.accounts l.account (drop l.account l.accounts) l.faults.items ≡ with_import_faults l.accounts 0 l.accounts l.initial.faults.items
