-- What a read that doesn't wait has given, and a write taken.
use Rattle.std.specs.Prelude.{ℕ, Bool, true, false, Option, Some, None, Result, Ok, Err}

-- how many bytes a call has given or taken
abbrev pub count_of : {E : Type 0} → Result (Option ℕ) E → ℕ
count_of (Ok (Some n)) = n
count_of (Ok None) = 0
count_of (Err e) = 0

-- it would have had to wait
abbrev pub is_not_now : {E : Type 0} → Result (Option ℕ) E → Bool
is_not_now (Ok None) = true
is_not_now (Ok (Some n)) = false
is_not_now (Err e) = false
