-- the text's fault, or what is told of the user
use Rattle.std.proofs.Common.{◌∙◌, ap, refl, sym}
use Rattle.std.specs.Prelude.{string_bytes}
use Rattle.explain.specs.declared.fault.ExplainFault.TheVariants as explaining
use Rattle.tasks.specs.Explaining.{of_explaining, of_parsing, publish_answer, publish_known, publish_told, told}
use Rattle.tasks.proofs.Answered.{handed_on, no_subject, unknown, with_subject}
use Rattle.tasks.proofs.answer.on_publish.Goals as goal

pub returns-in_err-subject : goal.returns-in_err-subject
returns-in_err-subject c =
    handed_on (publish_answer c.args.question.now c.args.policy.now) _ (of_parsing c.in_err-subject.field-0.0) c.from_residual.ensures.1
    (no_subject _ (string_bytes c.args.question.now.subject) c.in_err-subject.field-0.0 (publish_told c.args.question.now c.args.policy.now) c.as_bytes.ensures.value c.in_err-subject.ensures.tokens)

pub returns-in_err-reason : goal.returns-in_err-reason
returns-in_err-reason c =
    let q = c.args.question.now in
    let asked = with_subject _ (string_bytes q.subject) c.in_ok-subject.subject (publish_told q c.args.policy.now) c.as_bytes.ensures.value c.in_ok-subject.ensures.tokens in
    let of_user = ap (λ who. told (publish_known c.args.policy.now who c.in_ok-subject.subject)) (sym c.as_bytes-2.ensures.value) in
    handed_on (publish_answer q c.args.policy.now) _ (of_explaining c.in_err-reason.field-0.0) c.from_residual-in_err-reason.ensures.1
    (rw (asked ∙ of_user) (unknown explaining.NoSuchUser told _ c.in_err-reason.field-0.0 refl c.in_err-reason.ensures))
