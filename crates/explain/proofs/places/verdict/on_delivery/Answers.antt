-- what was found of the question's texts
use Rattle.std.proofs.Common.{◌≡◌, ◌∙◌, IfOk, ap, subst}
use Rattle.std.specs.Option.{option_copied}
use Rattle.explain.specs.places.Verdict.{delivery_asked, delivery_of}
use Rattle.explain.proofs.places.Asked.{asked}
use Rattle.subjects.specs.Fault.{subject_if}
use Rattle.explain.proofs.places.verdict.on_delivery.Goals as goal

pub returns : goal.returns
returns c =
    let doc = c.args.policy.now in
    let same : delivery_of doc c.as_bytes-who.result.now c.in-Some.subject (option_copied c.as_ref.result) ≡ delivery_asked doc c.args.question.now =
    ap (delivery_of doc c.as_bytes-who.result.now c.in-Some.subject) c.as_ref.ensures.value
    ∙ asked (delivery_of doc) _ _ _ _ c.in-Some.subject _ _ c.in-Some-2.queue c.as_bytes-who.ensures.value (c.in_ok-subject_if.ensures ∙ ap subject_if c.as_bytes.ensures.value) c.in-Some.is c.in_ok-queue_if-in-Some.ensures c.in-Some-2.is in
    subst (λ wanted. IfOk c.delivery_of.result (λ verdict. verdict ≡ wanted)) same c.delivery_of.ensures
