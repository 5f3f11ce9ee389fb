-- what was found of the question's texts
use Rattle.std.proofs.Common.{◌≡◌, ◌∙◌, IfOk, ap, subst}
use Rattle.std.specs.Option.{option_copied}
use Rattle.explain.specs.places.Verdict.{subscribe_asked, subscribe_of}
use Rattle.explain.proofs.places.Asked.{asked}
use Rattle.subjects.specs.Fault.{pattern_if}
use Rattle.explain.proofs.places.verdict.on_subscribe.Goals as goal

pub returns : goal.returns
returns c =
    let doc = c.args.policy.now in
    let same : subscribe_of doc c.as_bytes-who.result.now c.in-Some.pattern (option_copied c.as_ref.result) ≡ subscribe_asked doc c.args.question.now =
    ap (subscribe_of doc c.as_bytes-who.result.now c.in-Some.pattern) c.as_ref.ensures.value
    ∙ asked (subscribe_of doc) _ _ _ _ c.in-Some.pattern _ _ c.in-Some-2.queue c.as_bytes-who.ensures.value (c.in_ok-pattern_if.ensures ∙ ap pattern_if c.as_bytes.ensures.value) c.in-Some.is c.in_ok-queue_if-in-Some.ensures c.in-Some-2.is in
    subst (λ wanted. IfOk c.subscribe_of.result (λ verdict. verdict ≡ wanted)) same c.subscribe_of.ensures
