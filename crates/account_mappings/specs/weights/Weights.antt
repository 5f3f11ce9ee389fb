-- The weights of mappings (docs/GUARANTEE.md, "Mappings").
use Rattle.std.specs.Prelude.{ℕ, ◌&&◌, Bool, List, codes, take, drop, nat_le, Option, Some, None, option_and_then, if◌then◌else◌}
use Rattle.std.specs.Char.{is_ascii_digit}
use Rattle.std.specs.List.{prefix_len}
use Rattle.std.specs.Str.{bytes_eq}
use Rattle.base.specs.decimal.Short.{short_number}

-- one to a hundred
abbrev pub is_weight : ℕ → Bool
is_weight n = nat_le 1 n && nat_le n 100

abbrev pub weight_of : ℕ → Option ℕ
weight_of n = if is_weight n then Some n else None

-- the weight that one to three digits write
abbrev pub digits_weight : List ℕ → Option ℕ
digits_weight digits = option_and_then weight_of (short_number 3 digits)

-- the digits that a text begins with, and `%` behind them
abbrev pub weight_written : List ℕ → Option ℕ
weight_written text =
    if bytes_eq (drop (prefix_len is_ascii_digit text) text) (codes "%") then digits_weight (take (prefix_len is_ascii_digit text) text) else None
