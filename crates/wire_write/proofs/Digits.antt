-- The text of a number, by its digits.
use Rattle.std.proofs.Common.{◌≡◌, ℕ, zero, suc, ◌+◌, ◌-◌, ◌*◌, ◌/◌, ◌%◌, ◌^◌, ◌<◌, ◌≤◌, Bool, true, ◌&&◌, T, eqb, [], ◌∷◌, get_or, length, inl, inr, arith, eq-zero-or-pos, eqb→eq}
use Rattle.std.proofs.lemmas.Fmt.{decimal_digit, decimal_step, length-decimal-le}
use Rattle.std.specs.Fmt.{decimal}
use lib.Ieee.Fits.{and_l, and_r}
use Rattle.wire_write.specs.declared.number.TheConstants.{PAIRS}

pub one : (n : ℕ) → n < 10 → decimal n ≡ (48 + n) ∷ []
one n h = decimal_digit n h

pub two : (n : ℕ) → 10 ≤ n → n < 100 → decimal n ≡ (48 + n / 10) ∷ (48 + n % 10) ∷ []
two n lo hi = rw (decimal_step n lo (omega arith), decimal_digit (n / 10) (omega arith))

-- whether the table has the digits of each number below this one
abbrev are_pairs : ℕ → Bool
are_pairs zero = true
are_pairs (suc p) = (eqb (get_or PAIRS (p * 2) 0) (48 + p / 10) && eqb (get_or PAIRS (p * 2 + 1) 0) (48 + p % 10)) && are_pairs p

below : (n p : ℕ) → T (are_pairs n) → p < n → (get_or PAIRS (p * 2) 0 ≡ 48 + p / 10) × (get_or PAIRS (p * 2 + 1) 0 ≡ 48 + p % 10)
below zero p t h = absurd (omega arith)
below (suc n) p t h =
    elim (eq-zero-or-pos (n - p)) [
      | inl z ↦ let e : p ≡ n = omega arith in let a = and_l _ (are_pairs n) t in rw e (eqb→eq _ _ (and_l _ _ a), eqb→eq _ _ (and_r _ _ a))
      | inr g ↦ below n p (and_r _ (are_pairs n) t) (omega arith)
    ]

pub first_digit : (p : ℕ) → p < 100 → get_or PAIRS (p * 2) 0 ≡ 48 + p / 10
first_digit p h = (below 100 p tt h).0

pub second_digit : (p : ℕ) → p < 100 → get_or PAIRS (p * 2 + 1) 0 ≡ 48 + p % 10
second_digit p h = (below 100 p tt h).1

pub few : (n : ℕ) → n < 2 ^ 64 → length (decimal n) ≤ 20
few n h = length-decimal-le 20 n (omega arith) (omega arith) h
