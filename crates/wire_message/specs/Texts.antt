-- The texts of a published message (NATS documentation, "Client Protocol", PUB and HPUB).
use Rattle.std.specs.Prelude.{◌≡◌, ℕ, ◌+◌, ◌-◌, ◌<◌, ◌≤◌, ◌==◌, List, length, take, drop, slice_range, Option, Some, None, if◌then◌else◌}
use Rattle.base.specs.Blanks.{blanks_of}
use Rattle.wire_message.specs.Stored.{Stored}
use Rattle.wire_message.specs.declared.places.Span.{Span}
use Rattle.wire_message.specs.declared.places.TextsAt.{TextsAt}

-- what all that a message is for are sent alike
pub record Texts : Type 0 where
  pub subject : List ℕ
  -- the subject to answer on, if there is one
  pub reply : Option (List ℕ)
  -- the header block, which may be empty
  pub head : List ℕ
  pub payload : List ℕ

abbrev pub texts : List ℕ → Option (List ℕ) → List ℕ → List ℕ → Texts
texts s reply head payload = record { subject = s; reply = reply; head = head; payload = payload }

-- the text of a span, if there is one
abbrev pub span_if_at : List ℕ → Option Span → Option (List ℕ)
span_if_at text None = None
span_if_at text (Some span) = Some (slice_range text span.start span.end)

-- a header block of so many bytes before a payload of so many at the end
abbrev pub head_of : List ℕ → ℕ → ℕ → List ℕ
head_of text head payload = slice_range text (length text - payload - head) (length text - payload)

abbrev pub payload_of : List ℕ → ℕ → List ℕ
payload_of text payload = drop (length text - payload) text

-- the texts at these places of a text
abbrev pub texts_at : List ℕ → TextsAt → Texts
texts_at text at = texts (take at.subject text) (span_if_at text at.reply) (head_of text at.head at.payload) (payload_of text at.payload)

-- how long a text at a span is, or 0 where there is none
abbrev pub span_len : Option Span → ℕ
span_len None = 0
span_len (Some span) = span.end - span.start

-- a span with a byte behind the blanks behind the first bytes of a text, if there is one
abbrev pub IsSpanOf : List ℕ → ℕ → Option Span → Type 0
IsSpanOf text from None = Unit {0}
IsSpanOf text from (Some span) = (span.start ≡ from + blanks_of (drop from text)) × (span.start < span.end) × (span.end ≤ length text)

-- so many bytes behind the blanks of a text, or none
abbrev pub behind_blanks : List ℕ → ℕ → Option (List ℕ)
behind_blanks text len = if len == 0 then None else Some (slice_range text (blanks_of text) (blanks_of text + len))

-- the texts by the sizes that a message has beside its text
abbrev pub texts_stored : List ℕ → Stored → Texts
texts_stored text s = texts (take s.subject text) (behind_blanks (drop s.subject text) s.reply) (slice_range text s.front (s.front + s.head)) (drop (s.front + s.head) text)

-- these sizes are within the text
abbrev pub AreWithin : Stored → List ℕ → Type 0
AreWithin s text = (s.subject ≤ length text) × (s.subject + blanks_of (drop s.subject text) + s.reply ≤ length text) × (s.front + s.head ≤ length text)
