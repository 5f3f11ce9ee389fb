use Rattle.std.proofs.Common.{◌≡◌, ℕ, ◌-◌, ◌^◌, ◌<◌, get_or, take, true, min}
use Rattle.std.specs.Char.{is_ascii_digit}
use Rattle.std.specs.Str.Parse.{digits_value}
use Rattle.base.proofs.digits.number_of.Given as goal

abbrev pub invariant-loop-byte : goal.invariant-loop-byte
invariant-loop-byte l =
    ((k : ℕ) → k < l.byte-index → is_ascii_digit (get_or l.digits k 0) ≡ true)
    × (l.number ≡ min (digits_value 10 (take l.byte-index l.digits)) (2 ^ 64 - 1))
