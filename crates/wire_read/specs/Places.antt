-- What a line says, by the places of its fields.
use Rattle.std.specs.Prelude.{ℕ, ◌-◌, ◌<◌, ◌≤◌, List, length, Option, Some, None}
use Rattle.wire_read.specs.declared.lines.field.Place.{Place}
use Rattle.wire_message.specs.declared.places.Span.{Span}
use Rattle.wire_read.specs.declared.frame.Frame.{Frame}
use Rattle.wire_read.specs.declared.frame.Frame.TheVariants as frame
use Rattle.wire_read.specs.declared.command.AnnouncedAt.{AnnouncedAt}
use Rattle.wire_read.specs.declared.command.FrameAt.{FrameAt}
use Rattle.wire_read.specs.declared.command.FrameAt.TheVariants as frame_is
use Rattle.wire_read.specs.declared.command.CommandAt.{CommandAt}
use Rattle.wire_read.specs.declared.command.CommandAt.TheVariants as command_is
use Rattle.wire_read.specs.lines.Places.{text_at, text_if_at, IsBehindIf}
use Rattle.wire_read.specs.Command.{Announced, announced, Command, Alone, Publish, Refused}

-- what a line says with its fields at these places
abbrev pub announced_at : List ℕ → AnnouncedAt → Announced
announced_at line a = announced (text_at line a.subject) (text_if_at line a.reply) a.head a.total

abbrev pub frame_at : List ℕ → FrameAt → Frame
frame_at line (frame_is.Connect options) = frame.Connect (text_at line options)
frame_at line (frame_is.Sub subject queue sid) = frame.Sub (text_at line subject) (text_if_at line queue) (text_at line sid)
frame_at line (frame_is.Unsub sid most) = frame.Unsub (text_at line sid) most
frame_at line frame_is.Ping = frame.Ping
frame_at line frame_is.Pong = frame.Pong

abbrev pub command_at : List ℕ → CommandAt → Command
command_at line (command_is.Alone f) = Alone (frame_at line f)
command_at line (command_is.Publish a) = Publish (announced_at line a)
command_at line (command_is.Refused fault) = Refused fault

-- a subject, and behind it the one to answer on, if there is one, in a line of these bytes
abbrev pub IsInOrder : List ℕ → AnnouncedAt → Type 0
IsInOrder line a = (a.subject.start < a.subject.end) × (a.subject.end ≤ length line) × IsBehindIf a.subject.end line a.reply

abbrev pub AreTextsInOrder : List ℕ → CommandAt → Type 0
AreTextsInOrder line (command_is.Alone f) = Unit {0}
AreTextsInOrder line (command_is.Publish a) = IsInOrder line a
AreTextsInOrder line (command_is.Refused fault) = Unit {0}

-- a text that begins no earlier than this, if there is one
abbrev pub IsFromIf : ℕ → Option Place → Type 0
IsFromIf from None = Unit {0}
IsFromIf from (Some p) = (from ≤ p.start) × (p.start ≤ p.end)

-- where a text stands behind a place, if there is one
abbrev pub span_behind : ℕ → Option Place → Option Span
span_behind from None = None
span_behind from (Some p) = Some (record { start = p.start - from; end = p.end - from })
