-- A message (NATS documentation, "Client Protocol", PUB and HPUB).
use Rattle.std.specs.Prelude.{ℕ, Bool, true, ◌&&◌, List, Option, Some, None, is_some, if◌then◌else◌}
use Rattle.std.specs.Option.{option_map}
use Rattle.subjects.specs.Subject.{Token, tokens_of, IsSubject}
use Rattle.subjects.specs.Fault.{subject_if}
use Rattle.wire_message.specs.Texts.{Texts}

-- what all that a message is for are sent alike
pub record Message : Type 0 where
  pub subject : List Token
  -- the subject to answer on, if there is one
  pub reply : Option (List Token)
  -- the header block, which may be empty
  pub head : List ℕ
  pub payload : List ℕ

abbrev pub message : List Token → Option (List Token) → List ℕ → List ℕ → Message
message s reply head payload = record { subject = s; reply = reply; head = head; payload = payload }

-- the message that these texts say
abbrev pub read_as : Texts → Message
read_as t = message (tokens_of t.subject) (option_map tokens_of t.reply) t.head t.payload

-- a text is a subject, if there is one
abbrev pub is_subject_if : Option (List ℕ) → Bool
is_subject_if None = true
is_subject_if (Some text) = is_some (subject_if text)

abbrev pub IsSubjectIf : Option (List ℕ) → Type 0
IsSubjectIf None = Unit {0}
IsSubjectIf (Some text) = IsSubject (tokens_of text)

-- the subject is one, and the subject to answer on, if one is named
abbrev pub has_subjects : Texts → Bool
has_subjects t = is_some (subject_if t.subject) && is_subject_if t.reply

abbrev pub HasSubjects : Texts → Type 0
HasSubjects t = IsSubject (tokens_of t.subject) × IsSubjectIf t.reply

-- the message of these texts, if its subjects are subjects
abbrev pub message_of : Texts → Option Message
message_of t = if has_subjects t then Some (read_as t) else None
