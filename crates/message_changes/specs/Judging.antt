-- Questions about messages, and what lists decide of them (docs/POLICY.md, "Permissions").
use Rattle.std.specs.Prelude.{◌≡◌, ◌&&◌, All, Bool, true, false, List, not, Option, Some, None, if◌then◌else◌}
use Rattle.std.specs.Option.{option_map}
use Rattle.subjects.specs.Subject.{Token, is_pattern, is_subject, tokens_of}
use Rattle.permissions.specs.Lists.{Lists, Queue}
use Rattle.permissions.specs.Verdicts.{delivery_verdict, is_allowed, publish_verdict, subscribe_verdict}
use Rattle.permissions.specs.declared.verdict.Verdict.{Verdict}
use Rattle.message_changes.specs.declared.changes.MessageChange.{MessageChange}
use Rattle.message_changes.specs.declared.kind.MessageKind.{MessageKind}
use Rattle.message_changes.specs.declared.kind.MessageKind.TheVariants.{Publish, Subscribe, QueueSubscribe, Delivery, QueueDelivery}

-- a publish and a delivery ask of a subject, a subscription of a pattern
abbrev pub is_question : MessageKind → List Token → Bool
is_question Publish asked = is_subject asked
is_question Subscribe asked = is_pattern asked
is_question QueueSubscribe asked = is_pattern asked
is_question Delivery asked = is_subject asked
is_question QueueDelivery asked = is_subject asked

-- the lists' own verdict
abbrev pub verdict : MessageKind → Lists → List Token → Queue → Verdict
verdict Publish lists asked queue = publish_verdict lists asked
verdict Subscribe lists asked queue = subscribe_verdict lists asked queue
verdict QueueSubscribe lists asked queue = subscribe_verdict lists asked queue
verdict Delivery lists asked queue = delivery_verdict lists asked queue
verdict QueueDelivery lists asked queue = delivery_verdict lists asked queue

-- the subject or the pattern that tokens are, if they are one
abbrev pub if_so : Bool → List Token → Option (List Token)
if_so is tokens = if is then Some tokens else None

abbrev pub question_if : MessageKind → List Token → Option (List Token)
question_if kind asked = if_so (is_question kind asked) asked

abbrev pub verdict_if : MessageKind → Lists → List Token → Queue → Option Verdict
verdict_if kind lists asked queue = option_map (λ question. verdict kind lists question queue) (question_if kind asked)

abbrev pub is_allowed_if : Option Verdict → Bool
is_allowed_if None = false
is_allowed_if (Some v) = is_allowed v

abbrev pub is_refused_if : Option Verdict → Bool
is_refused_if None = false
is_refused_if (Some v) = not (is_allowed v)

-- it is a question, which one user's lists allow and another's refuse
abbrev pub differs : MessageKind → Lists → Lists → List Token → Queue → Bool
differs kind one other asked queue =
    is_allowed_if (verdict_if kind one asked queue) && is_refused_if (verdict_if kind other asked queue)

-- what is gained the new lists allow and the old refuse, and what is lost the reverse
abbrev pub changes_by : Bool → MessageKind → Lists → Lists → List Token → Queue → Bool
changes_by true kind old new = differs kind new old
changes_by false kind old new = differs kind old new

abbrev pub IsChange : Lists → Lists → MessageChange → Type 0
IsChange old new change =
    changes_by change.is_gain change.kind old new (tokens_of change.asked.subject.items) change.asked.queue ≡ true

-- each was asked of both lists, and judged so
abbrev pub AreChanges : Lists → Lists → List MessageChange → Type 0
AreChanges old new changes = All (IsChange old new) changes
