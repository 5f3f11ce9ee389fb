use Rattle.std.proofs.Common.{◌≡◌, ◌++◌, drop, take}
use Rattle.policy_doc.specs.Document.{users_of}
use Rattle.fault_lines.specs.Documents.{with_twins}
use Rattle.fault_lines.proofs.document.push_twins_in.Given as goal

abbrev pub invariant-loop-row : goal.invariant-loop-row
invariant-loop-row l =
    with_twins (users_of l.earlier ++ take l.row l.users) l.account l.row (drop l.row l.users) l.faults.items
    ≡ with_twins (users_of l.earlier) l.account 0 l.users l.initial.faults.items
