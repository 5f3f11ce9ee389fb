-- The numbers on a control line (NATS documentation, "Client Protocol"; docs/PROTOCOL.md, "Sizes").
use Rattle.std.specs.Prelude.{ℕ, ◌-◌, ◌^◌, not, List, nat_lt, Option, Some, None, Result, Ok, Err, if◌then◌else◌}
use Rattle.std.specs.Str.Parse.{digits_value}
use Rattle.base.specs.Number.{is_number}
use Rattle.wire_read.specs.declared.fault.WireFault.{WireFault}
use Rattle.wire_read.specs.declared.fault.WireFault.TheVariants.{ParserError, Payload}

-- the size that a field writes; a payload has at most 1,048,576 bytes
unfoldable pub size : List ℕ → Result ℕ WireFault
size field =
    if not (is_number field) then Err ParserError
    else if nat_lt 1048576 (digits_value 10 field) then Err Payload
    else Ok (digits_value 10 field)

-- a header block of so many bytes, and all that follows the line, of which it is the beginning
abbrev pub head_within : ℕ → Result ℕ WireFault → Result (ℕ × ℕ) WireFault
head_within head (Err fault) = Err fault
head_within head (Ok total) = if nat_lt total head then Err ParserError else Ok (head, total)

-- the sizes that the two fields of a message with a header block write
unfoldable pub sizes : List ℕ → List ℕ → Result (ℕ × ℕ) WireFault
sizes head total =
    if not (is_number head) then Err ParserError
    else head_within (digits_value 10 head) (size total)

-- the count of messages that a field writes, at most 2^63 - 1
unfoldable pub count : List ℕ → Option ℕ
count field =
    if not (is_number field) then None
    else if nat_lt (2 ^ 63 - 1) (digits_value 10 field) then None
    else Some (digits_value 10 field)
