-- What a control line says (NATS documentation, "Client Protocol").
use Rattle.std.specs.Prelude.{ℕ, ◌≤◌, List, Option, Some, None, Result, Ok, Err}
use Rattle.wire_read.specs.declared.fault.WireFault.{WireFault}
use Rattle.wire_read.specs.declared.fault.WireFault.TheVariants.{UnknownOperation, ParserError}
use Rattle.wire_read.specs.declared.frame.Frame.{Frame}
use Rattle.wire_read.specs.declared.frame.Frame.TheVariants.{Connect, Sub, Unsub, Ping, Pong}
use Rattle.wire_read.specs.declared.lines.operation.Operation.{Operation}
use Rattle.wire_read.specs.declared.lines.operation.Operation.TheVariants as operations
use Rattle.wire_read.specs.lines.Field.{Fields, One, Two, Three, Four, counted, fields, trimmed, first_field, after_first_field}
use Rattle.wire_read.specs.lines.Operation.{operation}
use Rattle.wire_read.specs.Size.{size, sizes, count}

-- a message that a line announces: the bytes of its header block, if it has one, and all bytes behind the line
pub record Announced : Type 0 where
  pub subject : List ℕ
  pub reply : Option (List ℕ)
  pub head : Option ℕ
  pub total : ℕ

-- a line is a frame by itself, announces a message, or is refused
pub data Command : Type 0 where
  Alone : Frame → Command
  Publish : Announced → Command
  Refused : WireFault → Command

-- a message with so many bytes behind its line
abbrev pub announced : List ℕ → Option (List ℕ) → Option ℕ → ℕ → Announced
announced subject reply head total = record { subject = subject; reply = reply; head = head; total = total }

-- a payload follows, unless its size is refused
abbrev pub sized : List ℕ → Option (List ℕ) → Result ℕ WireFault → Command
sized subject reply (Ok n) = Publish (announced subject reply None n)
sized subject reply (Err fault) = Refused fault

-- a header block and a payload follow, unless their sizes are refused
abbrev pub headed : List ℕ → Option (List ℕ) → Result (ℕ × ℕ) WireFault → Command
headed subject reply (Ok (head, total)) = Publish (announced subject reply (Some head) total)
headed subject reply (Err fault) = Refused fault

-- PUB subject [reply] size
abbrev pub publication : Fields → Command
publication (Two subject n) = sized subject None (size n)
publication (Three subject reply n) = sized subject (Some reply) (size n)
publication _ = Refused ParserError

-- HPUB subject [reply] head total
abbrev pub headed_publication : Fields → Command
headed_publication (Three subject head total) = headed subject None (sizes head total)
headed_publication (Four subject reply head total) = headed subject (Some reply) (sizes head total)
headed_publication _ = Refused ParserError

-- SUB subject [queue] sid
abbrev pub subscription : Fields → Command
subscription (Two subject sid) = Alone (Sub subject None sid)
subscription (Three subject queue sid) = Alone (Sub subject (Some queue) sid)
subscription _ = Refused ParserError

-- a subscription ends after so many messages, unless they are too many
abbrev pub ended_after : List ℕ → Option ℕ → Command
ended_after sid None = Refused ParserError
ended_after sid (Some most) = Alone (Unsub sid (Some most))

-- UNSUB sid [most]
abbrev pub unsubscription : Fields → Command
unsubscription (One sid) = Alone (Unsub sid None)
unsubscription (Two sid most) = ended_after sid (count most)
unsubscription _ = Refused ParserError

-- what an operation says with the line after it: of CONNECT all of it, of PING and PONG nothing
abbrev pub said_by : Option Operation → List ℕ → Command
said_by None rest = Refused UnknownOperation
said_by (Some operations.Connect) rest = Alone (Connect (trimmed rest))
said_by (Some operations.Pub) rest = publication (counted (fields rest))
said_by (Some operations.Hpub) rest = headed_publication (counted (fields rest))
said_by (Some operations.Sub) rest = subscription (counted (fields rest))
said_by (Some operations.Unsub) rest = unsubscription (counted (fields rest))
said_by (Some operations.Ping) rest = Alone Ping
said_by (Some operations.Pong) rest = Alone Pong

-- what a control line says: its first field is the operation
unfoldable pub command : List ℕ → Command
command line = said_by (operation (first_field line)) (after_first_field line)

-- a header block is part of what follows the line
abbrev pub IsWithin : Option ℕ → ℕ → Type 0
IsWithin None total = Unit {0}
IsWithin (Some head) total = head ≤ total
