-- What a stream begins with (NATS documentation, "Client Protocol").
use Rattle.std.specs.Prelude.{ℕ, ◌+◌, ◌==◌, ◌&&◌, List, [], ◌∷◌, take, drop, Option, Some, None, if◌then◌else◌}
use Rattle.wire_message.specs.Texts.{Texts, texts}
use Rattle.wire_read.specs.declared.fault.WireFault.{WireFault}
use Rattle.wire_read.specs.declared.fault.WireFault.TheVariants.{ParserError, ControlLine}
use Rattle.wire_read.specs.declared.frame.Frame.{Frame}
use Rattle.wire_read.specs.declared.frame.Frame.TheVariants.{Pub, Hpub}
use Rattle.wire_read.specs.Command.{Announced}
use Rattle.wire_read.specs.Command.{Command}
use Rattle.wire_read.specs.Command.{Alone, Publish, Refused}
use Rattle.wire_read.specs.declared.lines.line.FoundLine.{FoundLine}
use Rattle.wire_read.specs.declared.lines.line.FoundLine.TheVariants.{Open, TooLong, Ended}
use Rattle.wire_read.specs.declared.front.End.{End}
use Rattle.wire_read.specs.declared.front.End.TheVariants as ends
use Rattle.wire_read.specs.lines.Line.{line_of, without_cr}
use Rattle.wire_read.specs.Command.{command}

-- a frame and how many bytes it takes, less than a frame, or no frame however the bytes go on
pub data Front : Type 0 where
  Whole : Frame → ℕ → Front
  More : Front
  Wrong : WireFault → Front

-- the texts of a message by the bytes behind its line, of which the first `head` are its header block
abbrev pub block_texts : List ℕ → Option (List ℕ) → ℕ → List ℕ → Texts
block_texts subject reply head block = texts subject reply (take head block) (drop head block)

-- a message by the bytes behind its line: the first `head` of them are its header block, if it has one
abbrev pub message : List ℕ → Option (List ℕ) → Option ℕ → List ℕ → Frame
message subject reply None block = Pub (texts subject reply [] block)
message subject reply (Some head) block = Hpub (block_texts subject reply head block)

-- how the bytes after a payload end it: CR LF does, and the first other byte is wrong
abbrev pub end_of : List ℕ → End
end_of [] = ends.Open
end_of (b ∷ []) = if b == 13 then ends.Open else ends.Wrong
end_of (b ∷ c ∷ _) = if b == 13 && c == 10 then ends.Whole else ends.Wrong

-- a message of `taken` bytes, by how it ends
abbrev pub ended_by : End → Frame → ℕ → Front
ended_by ends.Open frame taken = More
ended_by ends.Whole frame taken = Whole frame taken
ended_by ends.Wrong frame taken = Wrong ParserError

-- a message of `taken` bytes, by the bytes after its payload
abbrev pub published : Frame → ℕ → List ℕ → Front
published frame taken rest = ended_by (end_of rest) frame taken

-- what begins with a line of `taken` bytes that announces a message, by the bytes after it
abbrev pub after_announced : Announced → ℕ → List ℕ → Front
after_announced a taken rest =
    published (message a.subject a.reply a.head (take a.total rest)) (taken + a.total + 2) (drop a.total rest)

-- what begins with a line of `taken` bytes, its end among them, by the bytes after it
abbrev pub after_line : Command → ℕ → List ℕ → Front
after_line (Refused fault) taken rest = Wrong fault
after_line (Alone frame) taken rest = Whole frame taken
after_line (Publish a) taken rest = after_announced a taken rest

-- what bytes begin with, by how far their first line has come
abbrev pub front_at : FoundLine → List ℕ → Front
front_at Open bytes = More
front_at TooLong bytes = Wrong ControlLine
front_at (Ended end) bytes = after_line (command (without_cr (take end bytes))) (end + 1) (drop (end + 1) bytes)

-- what bytes begin with: a frame and how many bytes it takes, less than one, or a fault
unfoldable pub front : List ℕ → Front
front bytes = front_at (line_of bytes) bytes
