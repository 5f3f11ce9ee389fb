-- The verdict on a question (docs/POLICY.md, "Explaining a verdict").
use Rattle.std.specs.Prelude.{List, Option, None, Some, string_bytes}
use Rattle.std.specs.Option.{option_and_then, option_map}
use Rattle.command_line.specs.Question.{Word}
use Rattle.command_line.specs.declared.question.Question.{Question}
use Rattle.command_line.specs.declared.question.QuestionKind.{QuestionKind}
use Rattle.command_line.specs.declared.question.QuestionKind.TheVariants.{Publish, Subscribe, Delivery, Path}
use Rattle.explain.specs.Reason.{delivery_reason, publish_reason, subscribe_reason, user_named}
use Rattle.explain.specs.declared.explanation.Explanation.{Explanation}
use Rattle.permissions.specs.Lists.{Queue, lists_of}
use Rattle.permissions.specs.declared.verdict.Verdict.{Verdict}
use Rattle.policy_doc.specs.Accounts.{Name}
use Rattle.policy_doc.specs.declared.document.PolicyDoc.{PolicyDoc}
use Rattle.policy_doc.specs.declared.document.UserDoc.{UserDoc}
use Rattle.subjects.specs.Fault.{pattern_if, subject_if}
use Rattle.subjects.specs.Subject.{Token}

abbrev pub verdict_of : Option Explanation → Option Verdict
verdict_of known = option_map (λ (e : Explanation). e.verdict) known

-- of a user: a publish, a subscription with a queue or without one, and a message to such a subscription
abbrev pub publish_of : PolicyDoc → Name → List Token → Option Verdict
publish_of doc who s = verdict_of (option_map (λ (u : UserDoc). publish_reason (lists_of u doc.default_permissions) s) (user_named doc who))

abbrev pub subscribe_of : PolicyDoc → Name → List Token → Queue → Option Verdict
subscribe_of doc who pattern queue = verdict_of (option_map (λ (u : UserDoc). subscribe_reason (lists_of u doc.default_permissions) pattern queue) (user_named doc who))

abbrev pub delivery_of : PolicyDoc → Name → List Token → Queue → Option Verdict
delivery_of doc who s queue = verdict_of (option_map (λ (u : UserDoc). delivery_reason (lists_of u doc.default_permissions) s queue) (user_named doc who))

-- the queue of a question, if it asks for none or for one that is a subject
abbrev pub queue_if : Option Word → Option Queue
queue_if None = Some None
queue_if (Some text) = option_map Some (subject_if (string_bytes text))

abbrev pub publish_asked : PolicyDoc → Question → Option Verdict
publish_asked doc q = option_and_then (publish_of doc (string_bytes q.who)) (subject_if (string_bytes q.subject))

abbrev pub subscribe_asked : PolicyDoc → Question → Option Verdict
subscribe_asked doc q = option_and_then (λ pattern. option_and_then (subscribe_of doc (string_bytes q.who) pattern) (queue_if q.queue)) (pattern_if (string_bytes q.subject))

abbrev pub delivery_asked : PolicyDoc → Question → Option Verdict
delivery_asked doc q = option_and_then (λ s. option_and_then (delivery_of doc (string_bytes q.who) s) (queue_if q.queue)) (subject_if (string_bytes q.subject))

-- a path has no verdict
abbrev pub verdict_by : QuestionKind → PolicyDoc → Question → Option Verdict
verdict_by Publish doc q = publish_asked doc q
verdict_by Subscribe doc q = subscribe_asked doc q
verdict_by Delivery doc q = delivery_asked doc q
verdict_by Path doc q = None

abbrev pub verdict_on : PolicyDoc → Question → Option Verdict
verdict_on doc q = verdict_by q.kind doc q
