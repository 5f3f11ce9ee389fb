-- The elements of a list behind the first so many.
use Rattle.std.proofs.Common.{◌≡◌, ℕ, zero, suc, ◌+◌, ◌-◌, ◌<◌, ◌≤◌, List, [], ◌∷◌, ◌++◌, drop, length, min, Some, None, slice_get, arith, refl, sym, ap, ◌∙◌, ⊎_elim, length-drop, append-nil}
use Rattle.std.proofs.lemmas.Bool.{cases_lt}
use Rattle.std.proofs.lemmas.List.{drop-drop, drop-append-le, drop_all}

-- the element at a place is the first of what is left
pub first_left : {X : Type 0} (xs : List X) (i : ℕ) (x : X) → slice_get xs i ≡ Some x → drop i xs ≡ x ∷ drop 1 (drop i xs)
first_left [] i x e = absurd (cc)
first_left (y ∷ xs) zero x e = cc
first_left (y ∷ xs) (suc i) x e = first_left xs i x e

-- where there is none, nothing is left
pub none_left : {X : Type 0} (xs : List X) (i : ℕ) → slice_get xs i ≡ None → drop i xs ≡ []
none_left [] zero e = refl
none_left [] (suc i) e = refl
none_left (y ∷ xs) zero e = absurd (cc)
none_left (y ∷ xs) (suc i) e = none_left xs i e

-- one more
pub drop_one_more : {X : Type 0} (xs : List X) (i : ℕ) → drop (i + 1) xs ≡ drop 1 (drop i xs)
drop_one_more xs i = sym (drop-drop 1 i xs)

-- so many more, counted no further than to a number that no list has more elements than
pub drop_many_more : {X : Type 0} (xs : List X) (i n most : ℕ) → length xs ≤ most → drop (min (i + n) most) xs ≡ drop n (drop i xs)
drop_many_more xs i n most few =
    ⊎_elim
    (λ (within : i + n < most). ap (λ k. drop k xs) (omega (arith, within)) ∙ sym (drop-drop n i xs))
    (λ (past : most ≤ i + n). drop_all (min (i + n) most) xs (omega (arith, past, few)) ∙ sym (drop_all (i + n) xs (omega (arith, past, few))) ∙ sym (drop-drop n i xs))
    (cases_lt (i + n) most)

-- what is left of a list, with another behind it
pub first_behind : {X : Type 0} (xs ys : List X) (i : ℕ) (x : X) → slice_get xs i ≡ Some x → drop i xs ++ ys ≡ x ∷ drop 1 (drop i xs ++ ys)
first_behind xs ys i x e =
    let left = first_left xs i x e in
    ap (λ l. l ++ ys) left ∙ ap (λ l. x ∷ l) (sym (ap (λ l. drop 1 (l ++ ys)) left))

pub none_behind : {X : Type 0} (xs ys : List X) (i : ℕ) → slice_get xs i ≡ None → (length xs ≤ i → ys ≡ []) → drop i xs ++ ys ≡ []
none_behind xs ys i e all =
    let none = none_left xs i e in
    let nothing = all (omega (arith, length-drop i xs, ap length none)) in
    rw (none, nothing) refl

pub drop_one_behind : {X : Type 0} (xs ys : List X) (i : ℕ) → i < length xs → drop (i + 1) xs ++ ys ≡ drop 1 (drop i xs ++ ys)
drop_one_behind xs ys i some =
    ap (λ l. l ++ ys) (drop_one_more xs i) ∙ sym (drop-append-le 1 (drop i xs) ys (omega (arith, length-drop i xs)))

pub drop_many_behind : {X : Type 0} (xs ys : List X) (i n : ℕ) → i + n < length xs → drop (i + n) xs ++ ys ≡ drop n (drop i xs ++ ys)
drop_many_behind xs ys i n some =
    let apart : drop (i + n) xs ≡ drop n (drop i xs) = ap (λ k. drop k xs) (omega arith) ∙ sym (drop-drop n i xs) in
    ap (λ l. l ++ ys) apart ∙ sym (drop-append-le n (drop i xs) ys (omega (arith, length-drop i xs)))

pub last_behind : {X : Type 0} (xs ys : List X) (i : ℕ) → length xs ≤ i + 1 → (length xs ≤ i → ys ≡ []) → ys ≡ drop 1 (drop i xs ++ ys)
last_behind xs ys i few all =
    ⊎_elim
    (λ (some : i < length xs).
    sym (drop-append-le 1 (drop i xs) ys (omega (arith, length-drop i xs)) ∙ ap (λ l. l ++ ys) (drop_all 1 (drop i xs) (omega (arith, length-drop i xs)))))
    (λ (none : length xs ≤ i). let nothing = all none in rw (drop_all i xs none, nothing) refl)
    (cases_lt i (length xs))

pub few_behind : {X : Type 0} (xs ys : List X) (i : ℕ) → ys ≡ [] → length xs - i ≤ 1 → length (drop i xs ++ ys) ≤ 1
few_behind xs ys i none few = rw (none, append-nil (drop i xs), length-drop i xs) few
