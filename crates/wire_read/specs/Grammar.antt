-- The texts of frames, and where a fault shows (NATS documentation, "Client Protocol"; docs/PROTOCOL.md, "Frames").
use Rattle.std.specs.Prelude.{◌≡◌, ◌⊎◌, ℕ, ◌-◌, ◌^◌, ◌<◌, ◌≤◌, Bool, true, false, List, [], ◌∷◌, ◌++◌, length, take, drop, Option, Some, None, IsTrue, All}
use Rattle.std.specs.List.{before_first}
use Rattle.std.specs.Str.Parse.{digits_value}
use Rattle.wire_read.specs.declared.fault.WireFault.{WireFault}
use Rattle.wire_read.specs.declared.fault.WireFault.TheVariants.{UnknownOperation, ParserError, ControlLine, Payload}
use Rattle.wire_read.specs.declared.frame.Frame.{Frame}
use Rattle.wire_read.specs.declared.frame.Frame.TheVariants as frame
use Rattle.wire_read.specs.declared.lines.operation.Operation.{Operation}
use Rattle.wire_read.specs.declared.lines.operation.Operation.TheVariants.{Connect, Pub, Hpub, Sub, Unsub, Ping, Pong}
use Rattle.wire_read.specs.Command.{Announced}
use Rattle.wire_read.specs.Command.{Command}
use Rattle.wire_read.specs.Command.{Alone, Publish, Refused}
use Rattle.wire_read.specs.Front.{Whole, Wrong, front}
use Rattle.wire_read.specs.lines.Line.{is_lf, without_cr}
use Rattle.wire_read.specs.lines.Field.{fields, trimmed, first_field, after_first_field}
use Rattle.wire_read.specs.lines.Operation.{operation}
use Rattle.base.specs.Number.{is_number}
use Rattle.wire_read.specs.Framing.{Framing, frames_of}

-- A text is this control line with its end: bytes other than LF, and a LF. One CR right before the LF is no part of the line.
abbrev pub IsLine : List ℕ → List ℕ → Type 0
IsLine line text =
    (raw : List ℕ) × (text ≡ raw ++ 10 ∷ []) × All (λ b. is_lf b ≡ false) raw × (line ≡ without_cr raw) × (length line ≤ 4096)

-- the first field of a line names this operation, and these are the others
abbrev pub Has : List ℕ → Operation → List (List ℕ) → Type 0
Has line op others = (name : List ℕ) × (operation name ≡ Some op) × (fields line ≡ name ∷ others)

-- a field that may stand there
abbrev pub optional : Option (List ℕ) → List (List ℕ)
optional None = []
optional (Some field) = field ∷ []

-- a field that writes this number
abbrev pub Writes : List ℕ → ℕ → Type 0
Writes field n = IsTrue (is_number field) × (digits_value 10 field ≡ n)

-- a line announces a message: by `PUB subject [reply] size`, or with a header block by `HPUB subject [reply] head total`
abbrev pub Announces : List ℕ → List ℕ → Option (List ℕ) → Option ℕ → ℕ → Type 0
Announces line subject reply None n =
    (size : List ℕ) × Has line Pub (subject ∷ (optional reply ++ (size ∷ []))) × Writes size n × (n ≤ 1048576)
Announces line subject reply (Some k) n =
    (head : List ℕ) × (total : List ℕ) × Has line Hpub (subject ∷ (optional reply ++ (head ∷ total ∷ [])))
    × Writes head k × Writes total n × (n ≤ 1048576) × (k ≤ n)

-- the fields behind an operation are not what it takes
abbrev pub IsMalformed : Operation → List (List ℕ) → Type 0
IsMalformed Pub others =
    (subject : List ℕ) (reply : Option (List ℕ)) (size : List ℕ) → others ≡ subject ∷ (optional reply ++ (size ∷ [])) → is_number size ≡ false
IsMalformed Hpub others =
    (subject : List ℕ) (reply : Option (List ℕ)) (head total : List ℕ) → others ≡ subject ∷ (optional reply ++ (head ∷ total ∷ [])) →
    IsTrue (is_number head) → IsTrue (is_number total) → (digits_value 10 total ≤ 1048576) × (digits_value 10 total < digits_value 10 head)
IsMalformed Sub others =
    (subject : List ℕ) (queue : Option (List ℕ)) (sid : List ℕ) → others ≡ subject ∷ (optional queue ++ (sid ∷ [])) → ⊥
IsMalformed Unsub others =
    ((sid : List ℕ) → others ≡ sid ∷ [] → ⊥)
    × ((sid most : List ℕ) → others ≡ sid ∷ most ∷ [] → IsTrue (is_number most) → 2 ^ 63 - 1 < digits_value 10 most)
IsMalformed _ others = ⊥

-- the fields behind an operation announce more bytes than a payload may have
abbrev pub IsOversized : Operation → List (List ℕ) → Type 0
IsOversized Pub others =
    (subject : List ℕ) × (reply : Option (List ℕ)) × (size : List ℕ) × (others ≡ subject ∷ (optional reply ++ (size ∷ [])))
    × IsTrue (is_number size) × (1048576 < digits_value 10 size)
IsOversized Hpub others =
    (subject : List ℕ) × (reply : Option (List ℕ)) × (head : List ℕ) × (total : List ℕ) × (others ≡ subject ∷ (optional reply ++ (head ∷ total ∷ [])))
    × IsTrue (is_number head) × IsTrue (is_number total) × (1048576 < digits_value 10 total)
IsOversized _ others = ⊥

-- what a control line says, by its fields
abbrev pub Says : List ℕ → Command → Type 0
Says line (Alone (frame.Connect options)) =
    (others : List (List ℕ)) × Has line Connect others × (options ≡ trimmed (after_first_field line))
Says line (Alone (frame.Sub subject queue sid)) = Has line Sub (subject ∷ (optional queue ++ (sid ∷ [])))
Says line (Alone (frame.Unsub sid None)) = Has line Unsub (sid ∷ [])
Says line (Alone (frame.Unsub sid (Some n))) =
    (most : List ℕ) × Has line Unsub (sid ∷ most ∷ []) × Writes most n × (n ≤ 2 ^ 63 - 1)
Says line (Alone frame.Ping) = (others : List (List ℕ)) × Has line Ping others
Says line (Alone frame.Pong) = (others : List (List ℕ)) × Has line Pong others
Says line (Alone (frame.Pub t)) = ⊥
Says line (Alone (frame.Hpub t)) = ⊥
Says line (Alone (frame.Fault fault)) = ⊥
Says line (Publish a) = Announces line a.subject a.reply a.head a.total
Says line (Refused UnknownOperation) = operation (first_field line) ≡ None
Says line (Refused ParserError) = (op : Operation) × (others : List (List ℕ)) × Has line op others × IsMalformed op others
Says line (Refused Payload) = (op : Operation) × (others : List (List ℕ)) × Has line op others × IsOversized op others
Says line (Refused ControlLine) = ⊥

-- a text is a line that announces a message, the bytes announced, and CR LF
abbrev pub IsMessage : List ℕ → Option (List ℕ) → Option ℕ → List ℕ → List ℕ → Type 0
IsMessage subject reply head block text =
    (line : List ℕ) × (start : List ℕ) × IsLine line start × Announces line subject reply head (length block)
    × (text ≡ start ++ (block ++ 13 ∷ 10 ∷ []))

-- The texts of a frame: a line that says it, and for a message its header block, its payload and CR LF behind the line. A fault has none.
-- A PUB has no header block.
abbrev pub IsSpelling : Frame → List ℕ → Type 0
IsSpelling (frame.Pub t) text = (t.head ≡ []) × IsMessage t.subject t.reply None t.payload text
IsSpelling (frame.Hpub t) text = IsMessage t.subject t.reply (Some (length t.head)) (t.head ++ t.payload) text
IsSpelling f text = (line : List ℕ) × IsLine line text × Says line (Alone f)

-- a stream begins with a frame exactly where it begins with one of its texts
abbrev pub IsSpelled : Type 0
IsSpelled = (stream : List ℕ) (f : Frame) (n : ℕ) → front stream ≡ Whole f n → (n ≤ length stream) × IsSpelling f (take n stream)

abbrev pub IsRead : Type 0
IsRead = (f : Frame) (text more : List ℕ) → IsSpelling f text → front (text ++ more) ≡ Whole f (length text)

-- CR LF cannot be made of these bytes, however they go on
abbrev pub IsNoEnd : List ℕ → Type 0
IsNoEnd [] = ⊥
IsNoEnd (b ∷ []) = b ≡ 13 → ⊥
IsNoEnd (b ∷ c ∷ _) = (b ≡ 13) × (c ≡ 10) → ⊥

-- A stream begins with a fault: at a line that no continuation makes short enough, at a line that says what is refused,
-- or at a wrong byte behind a payload.
abbrev pub Shows : WireFault → List ℕ → Type 0
Shows fault stream =
    ((fault ≡ ControlLine) × (4096 < length (without_cr (before_first is_lf stream))))
    ⊎ (((line : List ℕ) × (head : List ℕ) × (more : List ℕ) × (stream ≡ head ++ more) × IsLine line head × Says line (Refused fault))
    ⊎ ((fault ≡ ParserError) × ((line : List ℕ) × (head : List ℕ) × (more : List ℕ) × (a : Announced)
    × (stream ≡ head ++ more) × IsLine line head × Says line (Publish a) × IsNoEnd (drop a.total more))))

-- a stream begins with a fault exactly where one shows
abbrev pub IsShown : Type 0
IsShown = (stream : List ℕ) (fault : WireFault) → front stream ≡ Wrong fault → Shows fault stream

abbrev pub IsFault : Type 0
IsFault = (stream : List ℕ) (fault : WireFault) → Shows fault stream → front stream ≡ Wrong fault

-- bytes that begin with no text of a frame and with no fault
abbrev pub IsPartial : List ℕ → Type 0
IsPartial bytes =
    ((f : Frame) (text more : List ℕ) → bytes ≡ text ++ more → IsSpelling f text → ⊥) × ((fault : WireFault) → Shows fault bytes → ⊥)

-- A stream is texts of these frames and less than one more. Where it begins with a fault, that is the last frame.
abbrev pub IsFramedBy : List ℕ → List Frame → List ℕ → Bool → Type 0
IsFramedBy stream [] rest failed = (stream ≡ rest) × (failed ≡ false) × IsPartial rest
IsFramedBy stream (frame.Fault fault ∷ frames) rest failed = Shows fault stream × (frames ≡ []) × (rest ≡ []) × (failed ≡ true)
IsFramedBy stream (f ∷ frames) rest failed =
    (text : List ℕ) × (more : List ℕ) × (stream ≡ text ++ more) × IsSpelling f text × IsFramedBy more frames rest failed

abbrev pub IsFraming : List ℕ → Framing → Type 0
IsFraming stream f = IsFramedBy stream f.frames f.rest f.failed

-- every stream has a framing, and one alone
abbrev pub HasFraming : Type 0
HasFraming = (stream : List ℕ) → IsFraming stream (frames_of stream)

abbrev pub HasOneFraming : Type 0
HasOneFraming = (stream : List ℕ) (f : Framing) → IsFraming stream f → f ≡ frames_of stream
