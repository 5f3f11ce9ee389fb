-- The text of a delivery (NATS documentation, "Client Protocol", "MSG", "HMSG"; docs/PROTOCOL.md, "Deliveries").
use Rattle.std.specs.Prelude.{◌≡◌, ◌==◌, ◌&&◌, ◌++◌, ℕ, Bool, not, List, length, Option, Some, None, if◌then◌else◌}
use Rattle.std.specs.List.{flat_map}
use Rattle.subjects.specs.Subject.{Token, text_of}
use Rattle.wire_write.specs.Texts.{msg_line, hmsg_line}
use Rattle.events.specs.declared.answer.Delivery.{Delivery}

-- the text of a subject to answer on
abbrev pub reply_subject_text : Option (List Token) → Option (List ℕ)
reply_subject_text None = None
reply_subject_text (Some subject) = Some (text_of subject)

-- the text of a delivery, its payload alone
abbrev pub payload_text : Delivery → List ℕ
payload_text d = msg_line (text_of d.message.subject) d.sid (reply_subject_text d.message.reply) d.message.payload

-- the text of a delivery with its header block
abbrev pub whole_text : Delivery → List ℕ
whole_text d = hmsg_line (text_of d.message.subject) d.sid (reply_subject_text d.message.reply) d.message.head d.message.payload

-- the text of a delivery; a client that has not declared headers is sent the payload alone
abbrev pub delivery_text : Bool → Delivery → List ℕ
delivery_text headers d =
    if headers && not (length d.message.head == 0)
    then hmsg_line (text_of d.message.subject) d.sid (reply_subject_text d.message.reply) d.message.head d.message.payload
    else msg_line (text_of d.message.subject) d.sid (reply_subject_text d.message.reply) d.message.payload

-- the texts of deliveries
abbrev pub texts : Bool → List Delivery → List ℕ
texts headers ds = flat_map (delivery_text headers) ds

-- a front of the deliveries is written, and the rest is left
pub record IsWritten (headers : Bool) (before : List ℕ) (all : List Delivery) (after : List ℕ) (left : List Delivery) : Type 0 where
  pub written : List Delivery
  pub is_front : all ≡ written ++ left
  pub text : after ≡ before ++ texts headers written
