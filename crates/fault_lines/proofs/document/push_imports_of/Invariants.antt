use Rattle.std.proofs.Common.{◌≡◌, drop}
use Rattle.fault_lines.specs.Documents.{with_causes}
use Rattle.fault_lines.proofs.document.push_imports_of.Given as goal

abbrev pub invariant-loop-row : goal.invariant-loop-row
invariant-loop-row l =
    with_causes l.accounts l.named.name l.account l.row (drop l.row l.named.account.imports) l.faults.items
    ≡ with_causes l.accounts l.named.name l.account 0 l.named.account.imports l.initial.faults.items
