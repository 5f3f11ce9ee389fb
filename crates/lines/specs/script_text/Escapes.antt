-- The escapes of a text to send (docs/SCRIPT.md, "Bytes of a `send`").
use Rattle.std.specs.Prelude.{◌==◌, ◌+◌, ◌*◌, ◌-◌, ◌<◌, ℕ, ◌&&◌, List, [], ◌∷◌, Option, Some, None, if◌then◌else◌, nat_le, option_map, option_and_then}
use Rattle.lines.specs.declared.script_text.escapes.Escape.{Escape}
use Rattle.lines.specs.declared.script_text.escapes.Escape.TheVariants.{Plain, Backslash, HighDigit, LowDigit}
use Rattle.lines.specs.declared.script_text.escapes.ByteRead.{ByteRead}
use Rattle.lines.specs.declared.script_text.escapes.ByteRead.TheVariants.{Wrong, Within, Byte}

-- the value of a hexadecimal digit in either case
abbrev pub hex_of : ℕ → Option ℕ
hex_of c =
    if nat_le 48 c && nat_le c 57 then Some (c - 48)
    else if nat_le 97 c && nat_le c 102 then Some (c - 87)
    else if nat_le 65 c && nat_le c 70 then Some (c - 55)
    else None

-- the same bytes after one more
abbrev pub with_byte : ℕ → Option (List ℕ) → Option (List ℕ)
with_byte b bytes = option_map (λ bs. b ∷ bs) bytes

abbrev mutual
  -- the bytes that a text stands for: each is itself, but a `\` begins an escape
  pub unescaped : List ℕ → Option (List ℕ)
  unescaped [] = Some []
  unescaped (b ∷ bs) = if b == 92 then escape bs else with_byte b (unescaped bs)

  -- after `\`: `r` is CR, `n` is LF, `\` is itself, and `x` has two hexadecimal digits
  pub escape : List ℕ → Option (List ℕ)
  escape [] = None
  escape (b ∷ bs) =
      if b == 114 then with_byte 13 (unescaped bs)
      else if b == 110 then with_byte 10 (unescaped bs)
      else if b == 92 then with_byte 92 (unescaped bs)
      else if b == 120 then high_digit bs
      else None

  pub high_digit : List ℕ → Option (List ℕ)
  high_digit [] = None
  high_digit (b ∷ bs) = option_and_then (λ high. low_digit high bs) (hex_of b)

  pub low_digit : ℕ → List ℕ → Option (List ℕ)
  low_digit high [] = None
  low_digit high (b ∷ bs) = option_and_then (λ low. with_byte (16 * high + low) (unescaped bs)) (hex_of b)

-- the same of what follows when a part of an escape has been read
abbrev pub after_part : Escape → List ℕ → Option (List ℕ)
after_part Plain bs = unescaped bs
after_part Backslash bs = escape bs
after_part HighDigit bs = high_digit bs
after_part (LowDigit high) bs = low_digit high bs

-- a first hexadecimal digit is below 16
abbrev pub IsHex : Escape → Type 0
IsHex (LowDigit high) = high < 16
IsHex _ = Unit {0}

-- the bytes of the text whose first byte made this step, and whose rest is bs
abbrev pub after_read : ByteRead → List ℕ → Option (List ℕ)
after_read Wrong bs = None
after_read (Within state) bs = after_part state bs
after_read (Byte b) bs = with_byte b (unescaped bs)

abbrev pub IsHexRead : ByteRead → Type 0
IsHexRead (Within state) = IsHex state
IsHexRead _ = Unit {0}
