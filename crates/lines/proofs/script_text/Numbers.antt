-- Reading a decimal number digit by digit.
use Rattle.std.proofs.Common.{◌≡◌, ◌==◌, ◌+◌, ◌*◌, ◌-◌, ◌^◌, ◌<◌, ◌≤◌, ℕ, Bool, true, false, ◌&&◌, List, [], ◌∷◌, Option, Some, None, if◌then◌else◌, nat_lt, arith, refl, length}
use Rattle.std.proofs.lemmas.Grind.{common_steps}
use Rattle.std.proofs.lemmas.Bool.Decides.{nat_tests}
use borrow.Author.Tests.{ltb-true, ltb-false}
use Rattle.std.specs.Str.{all_ascii_digits}
use Rattle.std.specs.Char.{is_ascii_digit, digit_value}
use Rattle.std.specs.Str.Parse.{digits_value_after}
use Rattle.lines.specs.script_text.Lines.{number_of}

-- the number that digits make after those of n
abbrev pub number_after : ℕ → List ℕ → Option ℕ
number_after n [] = Some n
number_after n (d ∷ ds) = if is_ascii_digit d && nat_lt (10 * n + (d - 48)) (2 ^ 64) then number_after (10 * n + (d - 48)) ds else None

-- more digits make no smaller number
grows : (n : ℕ) (ds : List ℕ) → n ≤ digits_value_after 10 n ds
grows n [] = omega arith
grows n (d ∷ ds) = let more = grows (n * 10 + digit_value d) ds in omega arith

value : (d : ℕ) → is_ascii_digit d ≡ true → digit_value d ≡ d - 48
value d digit = grind (arith, nat_tests)

abbrev all_read : ℕ → List ℕ → Option ℕ
all_read n ds = if all_ascii_digits ds && nat_lt (digits_value_after 10 n ds) (2 ^ 64) then Some (digits_value_after 10 n ds) else None

too_big : (digits fits : Bool) (n : Option ℕ) → fits ≡ false → (if digits && fits then n else None) ≡ None
too_big false fits n e = refl
too_big true fits n e = rw e refl

-- one digit more, where the rest is read
one_more : (n d : ℕ) (ds : List ℕ) → ((m : ℕ) → m < 2 ^ 64 → all_read m ds ≡ number_after m ds) →
    (digit : Bool) → is_ascii_digit d ≡ digit → (fits : Bool) → nat_lt (10 * n + (d - 48)) (2 ^ 64) ≡ fits →
    (if digit && all_ascii_digits ds && nat_lt (digits_value_after 10 (n * 10 + digit_value d) ds) (2 ^ 64) then Some (digits_value_after 10 (n * 10 + digit_value d) ds) else None) ≡ (if digit && fits then number_after (10 * n + (d - 48)) ds else None)
one_more n d ds rest false e fits f = refl
one_more n d ds rest true e false f =
    let more : 2 ^ 64 ≤ digits_value_after 10 (n * 10 + digit_value d) ds = omega (arith, value d e, ltb-false _ _ f, grows (n * 10 + digit_value d) ds) in
    too_big (all_ascii_digits ds) _ _ (grind (arith, nat_tests))
one_more n d ds rest true e true f =
    let same : n * 10 + digit_value d ≡ 10 * n + (d - 48) = omega (arith, value d e) in
    rw same (rest (10 * n + (d - 48)) (ltb-true _ _ f))

read_ahead : (n : ℕ) (ds : List ℕ) → n < 2 ^ 64 → all_read n ds ≡ number_after n ds
read_ahead n [] small = grind (arith, common_steps)
read_ahead n (d ∷ ds) small = one_more n d ds (λ m fits. read_ahead m ds fits) (is_ascii_digit d) refl (nat_lt (10 * n + (d - 48)) (2 ^ 64)) refl

pub number_of_is : (text : List ℕ) → (length text == 0) ≡ false → number_of text ≡ number_after 0 text
number_of_is [] some = cc
number_of_is (d ∷ ds) some = read_ahead 0 (d ∷ ds) (omega arith)
