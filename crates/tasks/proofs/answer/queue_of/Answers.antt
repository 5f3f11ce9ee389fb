-- the subject of the text, or its fault
use Rattle.std.proofs.Common.{◌∙◌, Some, Ok, ap}
use Rattle.std.specs.Prelude.{string_bytes}
use Rattle.tasks.specs.Explaining.{of_parsing, queue_asked}
use Rattle.tasks.proofs.Answered.{handed_on_by, no_subject, with_subject}
use Rattle.tasks.proofs.answer.queue_of.Goals as goal

pub returns-in_err-parse-in-Some : goal.returns-in_err-parse-in-Some
returns-in_err-parse-in-Some c =
    rw c.in-Some.is (handed_on_by (queue_asked (Some c.in-Some.text)) _ (of_parsing c.in_err-parse-in-Some.field-0.0) c.from_residual.ensures.1
    (no_subject _ (string_bytes c.in-Some.text) c.in_err-parse-in-Some.field-0.0 (λ queue. Ok (Some queue)) c.as_bytes.ensures.value c.in_err-parse-in-Some.ensures.tokens))

pub returns-in_ok-parse-in-Some : goal.returns-in_ok-parse-in-Some
returns-in_ok-parse-in-Some c =
    ap queue_asked c.in-Some.is ∙ with_subject _ (string_bytes c.in-Some.text) c.in_ok-parse-in-Some.field-0 (λ queue. Ok (Some queue)) c.as_bytes.ensures.value c.in_ok-parse-in-Some.ensures.tokens
