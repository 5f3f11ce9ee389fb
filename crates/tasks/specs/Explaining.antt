-- What `natsd explain` prints, and its status (docs/POLICY.md, "Explaining a verdict").
use Rattle.std.specs.Prelude.{◌≡◌, ◌++◌, ⊤, ℕ, List, codes, string_bytes, Option, Some, None, Result, Ok, Err}
use Rattle.std.specs.Global.{Vec}
use Rattle.std.specs.Option.{option_map}
use Rattle.subjects.specs.Subject.{Token}
use Rattle.subjects.specs.Fault.{pattern_if, subject_if}
use Rattle.subjects.specs.declared.error.SubjectError.{SubjectError}
use Rattle.subjects.specs.declared.error.SubjectError.TheVariants as parsing
use Rattle.policy_doc.specs.Accounts.{Name}
use Rattle.policy_doc.specs.declared.document.PolicyDoc.{PolicyDoc}
use Rattle.policy_doc.specs.declared.document.UserDoc.{UserDoc}
use Rattle.permissions.specs.Lists.{lists_of}
use Rattle.command_line.specs.Question.{Word}
use Rattle.command_line.specs.declared.question.Question.{Question}
use Rattle.command_line.specs.declared.question.QuestionKind.{QuestionKind}
use Rattle.command_line.specs.declared.question.QuestionKind.TheVariants.{Publish, Subscribe, Delivery, Path}
use Rattle.explain.specs.Lines.{explanation_text, path_text}
use Rattle.explain.specs.Path.{path_of}
use Rattle.explain.specs.Reason.{delivery_reason, publish_reason, subscribe_reason, user_named}
use Rattle.explain.specs.declared.explanation.Explanation.{Explanation}
use Rattle.explain.specs.declared.fault.ExplainFault.{ExplainFault}
use Rattle.explain.specs.declared.fault.ExplainFault.TheVariants as explaining
use Rattle.explain.specs.declared.path.PathShare.{PathShare}
use Rattle.policy_text.specs.reload.Fault.{fault_line}
use Rattle.policy_text.specs.reload.Reload.{prepared}
use Rattle.policy_text.specs.declared.reload.fault.ReloadFault.{ReloadFault}
use Rattle.script.specs.Play.{Played}
use Rattle.tasks.specs.declared.answer.AnswerFault.{AnswerFault}
use Rattle.tasks.specs.declared.answer.AnswerFault.TheVariants.{BadSubject, NoSuchUser, NoSuchAccount, NoMemory}

-- ---- an answer

abbrev pub Answer : Type 0
Answer = Result (List ℕ) AnswerFault

-- what was made of a text, or that the text is bad
abbrev pub from_text : {X Y : Type 0} → Option X → (X → Result Y AnswerFault) → Result Y AnswerFault
from_text None answer = Err BadSubject
from_text (Some x) answer = answer x

-- the subject of a text, and the queue name of one if there is one
abbrev pub subject_asked : Word → Option (List Token)
subject_asked text = subject_if (string_bytes text)

abbrev pub queue_asked : Option Word → Result (Option (List Token)) AnswerFault
queue_asked None = Ok None
queue_asked (Some text) = from_text (subject_asked text) (λ queue. Ok (Some queue))

-- the lines of a reason, where the user is known
abbrev pub told : Option Explanation → Answer
told None = Err NoSuchUser
told (Some reason) = Ok (explanation_text reason)

abbrev pub with_queue : Result (Option (List Token)) AnswerFault → (Option (List Token) → Answer) → Answer
with_queue (Ok queue) answer = answer queue
with_queue (Err fault) answer = Err fault

-- a publish on a subject
abbrev pub publish_known : PolicyDoc → Name → List Token → Option Explanation
publish_known doc who subject = option_map (λ (u : UserDoc). publish_reason (lists_of u doc.default_permissions) subject) (user_named doc who)

abbrev pub publish_told : Question → PolicyDoc → List Token → Answer
publish_told q doc subject = told (publish_known doc (string_bytes q.who) subject)

abbrev pub publish_answer : Question → PolicyDoc → Answer
publish_answer q doc = from_text (subject_asked q.subject) (publish_told q doc)

-- a subscription to a pattern, with a queue or without one
abbrev pub subscribe_known : PolicyDoc → Name → List Token → Option (List Token) → Option Explanation
subscribe_known doc who pattern queue = option_map (λ (u : UserDoc). subscribe_reason (lists_of u doc.default_permissions) pattern queue) (user_named doc who)

abbrev pub subscribe_told : Question → PolicyDoc → List Token → Answer
subscribe_told q doc pattern = with_queue (queue_asked q.queue) (λ queue. told (subscribe_known doc (string_bytes q.who) pattern queue))

abbrev pub subscribe_answer : Question → PolicyDoc → Answer
subscribe_answer q doc = from_text (pattern_if (string_bytes q.subject)) (subscribe_told q doc)

-- a message on a subject, to a subscription with a queue or without one
abbrev pub delivery_known : PolicyDoc → Name → List Token → Option (List Token) → Option Explanation
delivery_known doc who subject queue = option_map (λ (u : UserDoc). delivery_reason (lists_of u doc.default_permissions) subject queue) (user_named doc who)

abbrev pub delivery_told : Question → PolicyDoc → List Token → Answer
delivery_told q doc subject = with_queue (queue_asked q.queue) (λ queue. told (delivery_known doc (string_bytes q.who) subject queue))

abbrev pub delivery_answer : Question → PolicyDoc → Answer
delivery_answer q doc = from_text (subject_asked q.subject) (delivery_told q doc)

-- a path: its lines, where the account is known
abbrev pub shown : Option (List PathShare) → Answer
shown None = Err NoSuchAccount
shown (Some shares) = Ok (path_text shares)

abbrev pub path_shown : Question → PolicyDoc → List Token → Answer
path_shown q doc subject = shown (path_of doc (string_bytes q.who) subject)

abbrev pub path_answer : Question → PolicyDoc → Answer
path_answer q doc = from_text (subject_asked q.subject) (path_shown q doc)

abbrev pub answer_of_kind : QuestionKind → Question → PolicyDoc → Answer
answer_of_kind Publish q doc = publish_answer q doc
answer_of_kind Subscribe q doc = subscribe_answer q doc
answer_of_kind Delivery q doc = delivery_answer q doc
answer_of_kind Path q doc = path_answer q doc

abbrev pub answered_by : Question → PolicyDoc → Answer
answered_by q doc = answer_of_kind q.kind q doc

-- this fault is answered, or there was no memory
abbrev pub IsRefused : {X : Type 0} → Result X AnswerFault → AnswerFault → Type 0
IsRefused wanted NoMemory = ⊤
IsRefused wanted fault = wanted ≡ Err fault

-- this is answered, or there was no memory
abbrev pub IsAnsweredBy : {X : Type 0} → Result X AnswerFault → Result X AnswerFault → Type 0
IsAnsweredBy wanted (Ok x) = wanted ≡ Ok x
IsAnsweredBy wanted (Err fault) = IsRefused wanted fault

abbrev pub IsAnswered : Answer → Result (Vec ℕ) AnswerFault → Type 0
IsAnswered wanted (Ok lines) = wanted ≡ Ok lines.items
IsAnswered wanted (Err fault) = IsRefused wanted fault

-- ---- what is printed

abbrev pub refusal_line : AnswerFault → List ℕ
refusal_line BadSubject = codes "bad subject\n"
refusal_line NoSuchUser = codes "no such user\n"
refusal_line NoSuchAccount = codes "no such account\n"
refusal_line NoMemory = codes "no memory\n"

abbrev pub answered : Answer → Played
answered (Ok lines) = record { text = lines; status = 0 }
answered (Err fault) = record { text = refusal_line fault; status = 1 }

-- the answer of the policy, or the line of the first fault of its text
abbrev pub replied : Question → Result PolicyDoc ReloadFault → Played
replied q (Ok doc) = answered (answered_by q doc)
replied q (Err fault) = record { text = fault_line fault ++ codes "\n"; status = 1 }

abbrev pub explained_by : Question → List ℕ → Played
explained_by q text = replied q (prepared text)

-- ---- faults

abbrev pub of_parsing : SubjectError → AnswerFault
of_parsing parsing.NoMemory = NoMemory
of_parsing _ = BadSubject

abbrev pub of_explaining : ExplainFault → AnswerFault
of_explaining explaining.NoSuchUser = NoSuchUser
of_explaining explaining.NoSuchAccount = NoSuchAccount
of_explaining explaining.NoMemory = NoMemory
