-- The deliveries of elements, one by one.
use Rattle.std.proofs.Common.{◌≡◌, ℕ, zero, suc, ◌+◌, ◌-◌, ◌≤◌, List, [], ◌∷◌, ◌++◌, drop, length, map, Some, slice_get, sym, ap, ◌∙◌, arith}
use Rattle.std.specs.List.{All}
use Rattle.std.proofs.lemmas.List.{drop_at, drop-drop}
use Rattle.std.proofs.lemmas.List.Elements.{All-nil, All-cons}

-- the one that is given, and those that are left
next_given : {X : Type 0} (xs rest : List X) (n : ℕ) (x : X) → slice_get xs n ≡ Some x → drop n (xs ++ rest) ≡ x ∷ drop (suc n) (xs ++ rest)
next_given [] rest n x e = absurd (cc)
next_given (y ∷ xs) rest zero x e = let same : x ≡ y = cc in ap (λ z. z ∷ (xs ++ rest)) (sym same)
next_given (y ∷ xs) rest (suc n) x e = next_given xs rest n x e

pub one_given : {X : Type 0} (xs rest : List X) (n : ℕ) (x : X) → slice_get xs n ≡ Some x → drop n (xs ++ rest) ≡ x ∷ drop (n + 1) (xs ++ rest)
one_given xs rest n x e = let next : suc n ≡ n + 1 = omega arith in next_given xs rest n x e ∙ ap (λ k. x ∷ drop k (xs ++ rest)) next

-- those of an element are left out
pub all_given : {X : Type 0} (xs rest : List X) (n count : ℕ) → count ≡ length xs → count ≤ n → drop (n - count) rest ≡ drop n (xs ++ rest)
all_given xs rest n count e h =
    let whole : count + (n - count) ≡ n = omega (arith, h) in
    ap (drop (n - count)) (sym (drop_at xs rest count (sym e)))
    ∙ drop-drop (n - count) count (xs ++ rest)
    ∙ ap (λ k. drop k (xs ++ rest)) whole

-- what is the same of each
pub all_alike : {X Y A : Type 0} (f : X → Y) (g : Y → A) (a : A) (xs : List X) → ((x : X) → g (f x) ≡ a) → All (λ y. g y ≡ a) (map f xs)
all_alike f g a [] e = All-nil (λ y. g y ≡ a)
all_alike f g a (x ∷ xs) e = All-cons (λ y. g y ≡ a) (f x) (map f xs) (e x) (all_alike f g a xs e)
