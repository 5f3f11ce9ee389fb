-- How bytes are shown in a line of output (docs/SCRIPT.md).
use Rattle.std.specs.Prelude.{◌==◌, ◌+◌, ◌/◌, ◌%◌, ℕ, ◌&&◌, List, [], ◌∷◌, ◌++◌, if◌then◌else◌, nat_lt, nat_le, codes}

-- the digit of a number below 16, in lower case
abbrev pub hex_digit : ℕ → ℕ
hex_digit n = if nat_lt n 10 then 48 + n else 87 + n

-- how a byte is shown: CR, LF and `\` by their escapes, a printable one as it is, any other by its hexadecimal digits
abbrev pub shown_byte : ℕ → List ℕ
shown_byte b =
    if b == 92 then codes "\\\\"
    else if b == 13 then codes "\\r"
    else if b == 10 then codes "\\n"
    else if nat_le 32 b && nat_le b 126 then b ∷ []
    else codes "\\x" ++ hex_digit (b / 16) ∷ hex_digit (b % 16) ∷ []
