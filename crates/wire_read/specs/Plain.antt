-- A PUB as most clients write it: `PUB subject size` with one space between its fields, and CR LF behind them.
use Rattle.std.specs.Prelude.{◌≡◌, ℕ, ◌+◌, ◌≤◌, Bool, List, [], length, take, drop, None, nat_lt}
use Rattle.wire_message.specs.Texts.{texts}
use Rattle.wire_read.specs.declared.frame.Frame.{Frame}
use Rattle.wire_read.specs.declared.frame.Frame.TheVariants.{Pub}
use Rattle.wire_read.specs.declared.plain.PlainAt.{PlainAt}
use Rattle.wire_read.specs.Front.{Whole, front}

-- neither a blank nor a control
abbrev pub is_field_byte : ℕ → Bool
is_field_byte b = nat_lt 32 b

-- the frame of the texts at these places
abbrev pub plain_frame : PlainAt → List ℕ → Frame
plain_frame at bytes = Pub (texts (take at.subject (drop 4 bytes)) None [] (take at.total (drop at.start bytes)))

-- the bytes begin with the frame of the texts at these places, and these are among them
pub record IsPlain (at : PlainAt) (bytes : List ℕ) : Type 0 where
  pub subject : 4 + at.subject ≤ at.start
  pub payload : at.start + at.total + 2 ≤ length bytes
  pub whole : front bytes ≡ Whole (plain_frame at bytes) (at.start + at.total + 2)
