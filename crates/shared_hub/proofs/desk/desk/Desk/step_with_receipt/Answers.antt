-- the step keeps the guarantee, so what it told is of the policy in force after it
use Rattle.std.proofs.Common.{◌≡◌, true, subst, sym}
use Rattle.policy_doc.specs.declared.document.PolicyDoc.{PolicyDoc}
use Rattle.shared_waits.specs.receipts.Receipts.{is_of_policy}
use Rattle.shared_hub.proofs.desk.Verdicts.{genuine}
use Rattle.shared_hub.proofs.desk.desk.Desk.step_with_receipt.Goals as goal

pub of-requires : goal.of-requires
of-requires g c =
    let P : PolicyDoc → Type 0 = λ doc. is_of_policy doc c.in-Ok-step_counted.answer.event.what c.in-Ok-step_counted.answer.outcome ≡ true in
    subst P (sym c.in-Ok.ensures) (genuine _ _ _ _ c.in-Ok-step_counted.ensures.guarantee)
