-- Control lines (NATS documentation, "Client Protocol"; docs/PROTOCOL.md, "Control lines").
use Rattle.std.specs.Prelude.{ℕ, ◌-◌, ◌==◌, Bool, List, length, take, slice_index, nat_lt, if◌then◌else◌}
use Rattle.std.specs.List.{before_first, position_or_len}
use Rattle.wire_read.specs.declared.lines.line.FoundLine.{FoundLine}
use Rattle.wire_read.specs.declared.lines.line.FoundLine.TheVariants.{Open, TooLong, Ended}

-- a line ends before the first LF
abbrev pub is_lf : ℕ → Bool
is_lf b = b == 10

-- a line without one CR at its end
abbrev pub without_cr : List ℕ → List ℕ
without_cr line = if slice_index line (length line - 1) == 13 then take (length line - 1) line else line

-- a line has at most 4,096 bytes without its end
abbrev pub is_too_long : List ℕ → Bool
is_too_long line = nat_lt 4096 (length (without_cr line))

-- how far the first line of the bytes has come; its length is judged before its end came
unfoldable pub line_of : List ℕ → FoundLine
line_of bytes =
    if is_too_long (before_first is_lf bytes) then TooLong
    else if position_or_len is_lf bytes == length bytes then Open
    else Ended (position_or_len is_lf bytes)
