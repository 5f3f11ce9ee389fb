-- A few digits write a number that fits.
use Rattle.std.proofs.Common.{◌≡◌, ℕ, ◌-◌, ◌^◌, ◌<◌, ◌≤◌, Bool, true, false, not, List, [], ◌∷◌, length, min, Some, None, Option, refl, sym, ap, ◌∙◌, ltb, ◌&&◌, ◌==◌, arith, if◌then◌else◌}
use Rattle.std.specs.Prelude.{⊤, MatchOption}
use Rattle.std.specs.Char.{is_ascii_digit}
use Rattle.std.specs.Str.Parse.{digits_value}
use Rattle.std.proofs.Math.Nat.{pow-le-pow_right}
use Rattle.std.proofs.lemmas.Str.Parse.{numerals_by_value, tells_all_ascii_digits, digits_value_short}
use Rattle.std.specs.List.{list_all, prefix_len}
use Rattle.std.specs.Str.{all_ascii_digits}
use Rattle.std.proofs.lemmas.List.Sums.{prefix_len-le-length}
use Rattle.std.proofs.lemmas.Bool.{and_parts}
use Rattle.std.proofs.lemmas.Bool.Decides.{nat_tests}
use Rattle.base.specs.Number.{is_number}
use Rattle.base.specs.decimal.Short.{short_number}

pub within : (text : List ℕ) → prefix_len is_ascii_digit text ≤ length text
within text = prefix_len-le-length is_ascii_digit text

same_test : (ds : List ℕ) → list_all is_ascii_digit ds ≡ all_ascii_digits ds
same_test [] = refl
same_test (d ∷ ds) = ap (λ b. is_ascii_digit d && b) (same_test ds)

-- so many digits write a number below that power of ten
small : (most : ℕ) (ds : List ℕ) → length ds ≤ most → is_number ds ≡ true → digits_value 10 ds < 10 ^ most
small most ds few t =
    let all : list_all is_ascii_digit ds ≡ true = (and_parts (not (length ds == 0)) (list_all is_ascii_digit ds) t).1 in
    digits_value_short (numerals_by_value (λ ds. all_ascii_digits ds ≡ true) tells_all_ascii_digits) ds most (sym (same_test ds) ∙ all) few

-- which is its own, where nineteen may stand
own : (most : ℕ) (ds : List ℕ) → most ≤ 19 → length ds ≤ most → is_number ds ≡ true → min (digits_value 10 ds) (2 ^ 64 - 1) ≡ digits_value 10 ds
own most ds fits few t =
    let below : digits_value 10 ds < 10 ^ most = small most ds few t in
    let top : 10 ^ most ≤ 10 ^ 19 = pow-le-pow_right (omega arith) fits in
    omega (arith, below, top)

abbrev by_number : ℕ → Bool → Option ℕ
by_number n number = if number then Some n else None

-- what the digits write, cut at 64 bits, is the number of a few
pub number_is : (most : ℕ) (ds : List ℕ) → most ≤ 19 → length ds ≤ most → by_number (min (digits_value 10 ds) (2 ^ 64 - 1)) (is_number ds) ≡ short_number most ds
number_is most ds fits few = by (is_number ds) refl
  where
    short : ltb most (length ds) ≡ false
    short = grind (arith, nat_tests, few)

    by : (b : Bool) → is_number ds ≡ b → by_number (min (digits_value 10 ds) (2 ^ 64 - 1)) b ≡ (if ltb most (length ds) then None else by_number (digits_value 10 ds) b)
    by false t = rw short refl
    by true t = rw short (ap Some (own most ds fits few t))

-- it is below that power of ten
pub number_small : (most : ℕ) (ds : List ℕ) → length ds ≤ most → MatchOption (short_number most ds) ⊤ (λ n. n < 10 ^ most)
number_small most ds few = by (is_number ds) refl
  where
    short : ltb most (length ds) ≡ false
    short = grind (arith, nat_tests, few)

    by : (b : Bool) → is_number ds ≡ b → MatchOption (if ltb most (length ds) then None else by_number (digits_value 10 ds) b) ⊤ (λ n. n < 10 ^ most)
    by false t = rw short tt
    by true t = rw short (small most ds few t)
