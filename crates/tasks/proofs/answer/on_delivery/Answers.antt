-- the fault of a text, or what is told of the user
use Rattle.std.proofs.Common.{◌∙◌, refl}
use Rattle.std.specs.Prelude.{string_bytes}
use Rattle.explain.specs.declared.fault.ExplainFault.TheVariants as explaining
use Rattle.tasks.specs.Explaining.{of_explaining, of_parsing, queue_asked, delivery_answer, delivery_known, delivery_told, told}
use Rattle.tasks.proofs.Answered.{handed_on, no_queue, no_subject, told_is, told_of, unknown, with_subject}
use Rattle.tasks.proofs.answer.on_delivery.Goals as goal

pub returns-in_err-subject : goal.returns-in_err-subject
returns-in_err-subject c =
    handed_on (delivery_answer c.args.question.now c.args.policy.now) _ (of_parsing c.in_err-subject.field-0.0) c.from_residual.ensures.1
    (no_subject _ (string_bytes c.args.question.now.subject) c.in_err-subject.field-0.0 (delivery_told c.args.question.now c.args.policy.now) c.as_bytes.ensures.value c.in_err-subject.ensures.tokens)

pub returns-in_err-queue : goal.returns-in_err-queue
returns-in_err-queue c =
    let q = c.args.question.now in
    let asked = with_subject _ (string_bytes q.subject) c.in_ok-subject.subject (delivery_told q c.args.policy.now) c.as_bytes.ensures.value c.in_ok-subject.ensures.tokens in
    let known = delivery_known c.args.policy.now (string_bytes q.who) c.in_ok-subject.subject in
    handed_on (delivery_answer q c.args.policy.now) _ c.in_err-queue.field-0.0 c.from_residual-in_err-queue.ensures.1
    (rw asked (no_queue (queue_asked q.queue) (λ name. told (known name)) c.in_err-queue.field-0.0 c.in_err-queue.ensures))

pub returns-in_err-reason : goal.returns-in_err-reason
returns-in_err-reason c =
    let q = c.args.question.now in
    let asked = with_subject _ (string_bytes q.subject) c.in_ok-subject.subject (delivery_told q c.args.policy.now) c.as_bytes.ensures.value c.in_ok-subject.ensures.tokens in
    let of_user = told_of (λ who. delivery_known c.args.policy.now who c.in_ok-subject.subject) (string_bytes q.who) _ (queue_asked q.queue) c.in_ok-queue.queue _ c.in_ok-queue.ensures c.as_bytes-who.ensures.value c.as_ref.ensures.value in
    handed_on (delivery_answer q c.args.policy.now) _ (of_explaining c.in_err-reason.field-0.0) c.from_residual-in_err-reason.ensures.1
    (rw (asked ∙ of_user) (unknown explaining.NoSuchUser told _ c.in_err-reason.field-0.0 refl c.in_err-reason.ensures))

pub returns : goal.returns
returns c =
    let q = c.args.question.now in
    let asked = with_subject _ (string_bytes q.subject) c.in_ok-subject.subject (delivery_told q c.args.policy.now) c.as_bytes.ensures.value c.in_ok-subject.ensures.tokens in
    let of_user = told_of (λ who. delivery_known c.args.policy.now who c.in_ok-subject.subject) (string_bytes q.who) _ (queue_asked q.queue) c.in_ok-queue.queue _ c.in_ok-queue.ensures c.as_bytes-who.ensures.value c.as_ref.ensures.value in
    asked ∙ of_user ∙ told_is _ c.in_ok-reason.reason _ c.in_ok-reason.ensures c.in_ok-lines.ensures
