use Rattle.std.proofs.Common.{◌≡◌, [], drop, take}
use Rattle.policy_doc.specs.Document.{users_of}
use Rattle.fault_lines.specs.Documents.{with_twin_faults}
use Rattle.fault_lines.proofs.document.push_twins.Given as goal

abbrev pub invariant-loop-account : goal.invariant-loop-account
invariant-loop-account l =
    with_twin_faults (users_of (take l.account l.accounts)) l.account (drop l.account l.accounts) l.faults.items
    ≡ with_twin_faults [] 0 l.accounts l.initial.faults.items
