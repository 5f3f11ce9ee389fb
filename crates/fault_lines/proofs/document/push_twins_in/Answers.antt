use Rattle.std.proofs.Common.{rules, refl}
use Rattle.std.proofs.lemmas.List.{append-nil}
use Rattle.policy_doc.specs.Document.{users_of}
use Rattle.fault_lines.proofs.Steps.{twins_further}
use Rattle.fault_lines.proofs.document.push_twins_in.Goals as goal

pub loop-row-init : goal.loop-row-init
loop-row-init c = rw (append-nil (users_of c.args.earlier.now)) refl

pub loop-row-preserved : goal.loop-row-preserved
loop-row-preserved c =
    twins_further (users_of c.args.earlier.now) c.args.users.now c.args.account c.loop-row.row c.index-users-row.result
    c.loop-row.faults.items _ _ c.loop-row-test.true c.index-users-row.is (search rules) c.loop-row.invariant
