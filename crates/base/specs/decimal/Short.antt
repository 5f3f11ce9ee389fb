-- The number that a few decimal digits write.
use Rattle.std.specs.Prelude.{ℕ, List, length, nat_lt, Option, Some, None, if◌then◌else◌}
use Rattle.std.specs.Str.Parse.{digits_value}
use Rattle.base.specs.Number.{is_number}

-- at most so many digits
abbrev pub short_number : ℕ → List ℕ → Option ℕ
short_number most digits = if nat_lt most (length digits) then None else (if is_number digits then Some (digits_value 10 digits) else None)
