-- The number that digits write, digit by digit.
use Rattle.std.proofs.Common.{◌≡◌, ℕ, ◌+◌, ◌-◌, ◌*◌, ◌<◌, ◌≤◌, true, eqb, List, length, get_or, take, min, Some, None, not, sym, ap, ◌∙◌, arith, if◌then◌else◌, false}
use Rattle.std.specs.Char.{is_ascii_digit, IsAsciiDigit}
use Rattle.std.specs.Str.Parse.{digits_value}
use Rattle.std.proofs.lemmas.Int.Digits.{digits_value_more}
use Rattle.std.proofs.lemmas.Str.{digit_value_digit}
use Rattle.std.proofs.lemmas.List.{take_all, get_or_default}
use Rattle.std.proofs.lemmas.List.Sums.{list_all-from_AllPass}
use Rattle.std.proofs.lemmas.Bool.{cond-true, and_from}
use Rattle.base.specs.Number.{is_number}

-- one digit more
pub number_more : (most : ℕ) (field : List ℕ) (i n m r : ℕ) → i < length field → IsAsciiDigit (get_or field i 0) → n ≡ min (digits_value 10 (take i field)) most →
    m ≡ min (n * 10) most → r ≡ min (m + (get_or field i 0 - 48)) most → r ≡ min (digits_value 10 (take (i + 1) field)) most
number_more most field i n m r within digit old ten new =
    omega (arith, digits_value_more 10 field i within, digit_value_digit _ digit, digit)

-- every digit was read
pub number_whole : (most : ℕ) (field : List ℕ) (i n : ℕ) → eqb (length field) 0 ≡ false → length field ≤ i → ((k : ℕ) → k < i → is_ascii_digit (get_or field k 0) ≡ true) →
    n ≡ min (digits_value 10 (take i field)) most → Some n ≡ (if is_number field then Some (min (digits_value 10 field) most) else None)
number_whole most field i n some end digits is =
    let all = list_all-from_AllPass is_ascii_digit field (λ k d h. rw (get_or_default field k d 0 h) (digits k (omega arith))) in
    sym (cond-true (is_number field) _ _ (and_from _ _ (ap not some) all) ∙ ap Some (sym (is ∙ ap (λ f. min (digits_value 10 f) most) (take_all i field end))))
