-- the text's fault, or where the message is sent on and seen
use Rattle.std.proofs.Common.{◌∙◌, ap, refl, sym}
use Rattle.std.specs.Prelude.{string_bytes}
use Rattle.explain.specs.Path.{path_of}
use Rattle.explain.specs.declared.fault.ExplainFault.TheVariants as explaining
use Rattle.tasks.specs.Explaining.{of_explaining, of_parsing, path_answer, path_shown, shown}
use Rattle.tasks.proofs.Answered.{handed_on, no_subject, unknown, with_subject}
use Rattle.tasks.proofs.answer.on_path.Goals as goal

pub returns-in_err-subject : goal.returns-in_err-subject
returns-in_err-subject c =
    handed_on (path_answer c.args.question.now c.args.policy.now) _ (of_parsing c.in_err-subject.field-0.0) c.from_residual.ensures.1
    (no_subject _ (string_bytes c.args.question.now.subject) c.in_err-subject.field-0.0 (path_shown c.args.question.now c.args.policy.now) c.as_bytes.ensures.value c.in_err-subject.ensures.tokens)

pub returns-in_err-shares : goal.returns-in_err-shares
returns-in_err-shares c =
    let q = c.args.question.now in
    let asked = with_subject _ (string_bytes q.subject) c.in_ok-subject.subject (path_shown q c.args.policy.now) c.as_bytes.ensures.value c.in_ok-subject.ensures.tokens in
    let of_account = ap (λ who. shown (path_of c.args.policy.now who c.in_ok-subject.subject)) (sym c.as_bytes-2.ensures.value) in
    handed_on (path_answer q c.args.policy.now) _ (of_explaining c.in_err-shares.field-0.0) c.from_residual-in_err-shares.ensures.1
    (rw (asked ∙ of_account) (unknown explaining.NoSuchAccount shown _ c.in_err-shares.field-0.0 refl c.in_err-shares.ensures))
