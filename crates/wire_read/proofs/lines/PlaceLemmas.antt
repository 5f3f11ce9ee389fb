-- What stands at a place, where the place is kept within the line.
use Rattle.std.proofs.Common.{◌≡◌, ℕ, ◌-◌, ◌<◌, ◌≤◌, List, [], take, drop, min, refl, sym, ap, ◌∙◌, arith, ⊎_elim, length-take, length-drop}
use Rattle.std.proofs.lemmas.Bool.{cases_lt}
use Rattle.std.proofs.lemmas.List.{take_all, take-take, nil_from_length}
use Rattle.base.proofs.Parts.{drop-take_less}

nothing : (n : ℕ) (xs : List ℕ) → n ≡ 0 → take n xs ≡ []
nothing n xs e = rw e refl

-- a start behind the end is as one at the end
clamped : (xs : List ℕ) (s e : ℕ) → take (e - min s e) (drop (min s e) xs) ≡ take (e - s) (drop s xs)
clamped xs s e =
    ⊎_elim
    (λ (after : e < s). nothing (e - min s e) (drop (min s e) xs) (omega arith) ∙ sym (nothing (e - s) (drop s xs) (omega arith)))
    (λ (before : s ≤ e). let same : min s e ≡ s = omega arith in ap (λ n. take (e - n) (drop n xs)) same)
    (cases_lt e s)

-- a place of the first so many elements, kept within them
pub cut_is : (xs : List ℕ) (len s e : ℕ) → take (min e len - min s (min e len)) (drop (min s (min e len)) xs) ≡ take (e - s) (drop s (take len xs))
cut_is xs len s e =
    ⊎_elim
    (λ (far : len < s).
    nothing (min e len - min s (min e len)) (drop (min s (min e len)) xs) (omega arith)
    ∙ sym (nil_from_length (take (e - s) (drop s (take len xs))) (omega (arith, length-take (e - s) (drop s (take len xs)), length-drop s (take len xs), length-take len xs))))
    (λ (near : s ≤ len).
    ⊎_elim
    (λ (over : len < e).
    let end : min e len ≡ len = omega arith in
    let start : min s len ≡ s = omega arith in
    ap (λ n. take (n - min s n) (drop (min s n) xs)) end
    ∙ ap (λ n. take (len - n) (drop n xs)) start
    ∙ sym (take_all (e - s) (take (len - s) (drop s xs)) (omega (arith, length-take (len - s) (drop s xs))))
    ∙ ap (take (e - s)) (sym (drop-take_less xs s len near)))
    (λ (within : e ≤ len).
    let end : min e len ≡ e = omega arith in
    ap (λ n. take (n - min s n) (drop (min s n) xs)) end
    ∙ clamped xs s e
    ∙ sym (take-take (e - s) (len - s) (drop s xs) (omega arith))
    ∙ ap (take (e - s)) (sym (drop-take_less xs s len near)))
    (cases_lt len e))
    (cases_lt len s)
