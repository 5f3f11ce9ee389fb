-- The text of a duration (docs/POLICY.md, "Objects").
use Rattle.std.specs.Prelude.{ℕ, ◌*◌, ◌==◌, List, codes, take, drop, Option, Some, None, if◌then◌else◌}
use Rattle.std.specs.Char.{is_ascii_digit}
use Rattle.std.specs.List.{prefix_len}
use Rattle.std.specs.Str.{bytes_eq}
use Rattle.base.specs.decimal.Short.{short_number}

-- the milliseconds of a unit
abbrev pub unit_ms : List ℕ → Option ℕ
unit_ms unit =
    if bytes_eq unit (codes "ms") then Some 1
    else if bytes_eq unit (codes "s") then Some 1000
    else if bytes_eq unit (codes "m") then Some 60000
    else if bytes_eq unit (codes "h") then Some 3600000
    else None

-- so many of a unit, but not none of it
abbrev pub counted : ℕ → Option ℕ → Option ℕ
counted ms None = None
counted ms (Some n) = if n == 0 then None else Some (n * ms)

-- a number of at most nine digits, not 0, of a unit
abbrev pub duration_by : List ℕ → Option ℕ → Option ℕ
duration_by digits None = None
duration_by digits (Some ms) = counted ms (short_number 9 digits)

-- the unit stands behind the digits that the text begins with
abbrev pub duration_of : List ℕ → Option ℕ
duration_of text = duration_by (take (prefix_len is_ascii_digit text) text) (unit_ms (drop (prefix_len is_ascii_digit text) text))
