-- When an exporter is full.
use Rattle.std.proofs.Common.{◌≡◌, ◌≤◌, ◌<◌, ◌+◌, ◌||◌, ℕ, Bool, false, min, nat_lt, sym, arith}
use Rattle.std.proofs.lemmas.Bool.Decides.{nat_tests}
use Rattle.std.proofs.lemmas.Bool.{or_parts}
use Rattle.service_exporter.proofs.Places.{no_true}

-- whether so many more are too many
abbrev pub TooMany : ℕ → ℕ → ℕ → Bool
TooMany live last count = nat_lt 65536 (live + count) || nat_lt 18446744073709551615 (last + count)

below_false : (a b : ℕ) → b ≤ a → nat_lt a b ≡ false
below_false a b le = no_true (nat_lt a b) (λ h. let lt : a < b = grind (arith, nat_tests, h) in absurd (omega (arith, lt, le)))

pub below_not : (a b c : ℕ) → b ≤ c → c ≤ a → false ≡ nat_lt a b
below_not a b c le within = sym (below_false a b (omega (arith, le, within)))

-- who isn't full has a next number
pub next_of : (live last count number : ℕ) → TooMany live last count ≡ false → 0 < count → number ≡ min (last + 1) 18446744073709551615 → number ≡ last + 1
next_of live last count number free some is =
    let no : nat_lt 18446744073709551615 (last + count) ≡ false = (or_parts (nat_lt 65536 (live + count)) (nat_lt 18446744073709551615 (last + count)) free).1 in
    let le : last + count ≤ 18446744073709551615 = grind (arith, nat_tests, no) in
    omega (arith, is, le, some)
