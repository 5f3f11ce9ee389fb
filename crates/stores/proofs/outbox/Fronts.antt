-- One element more of the front of a list.
use Rattle.std.proofs.Common.{◌≡◌, ◌∙◌, ℕ, zero, suc, ◌+◌, ◌<◌, List, [], ◌∷◌, ◌++◌, take, drop, length, Some, None, slice_get, ap, sym, arith, refl}
use Rattle.std.proofs.lemmas.List.{take_more, drop-drop}
use Rattle.std.proofs.lemmas.Option.{get_or_from_slice_get, slice_get_within}

-- the element at an index comes behind those before it
pub take_next : {X : Type 0} (xs : List X) (i : ℕ) (x : X) → slice_get xs i ≡ Some x → take (i + 1) xs ≡ take i xs ++ x ∷ []
take_next xs i x e = take_more xs i x (slice_get_within xs i x e) ∙ ap (λ y. take i xs ++ y ∷ []) (get_or_from_slice_get xs i x x e)

-- below the length there is an element
pub is_there : {X : Type 0} (xs : List X) (i : ℕ) → i < length xs → slice_get xs i ≡ None → ⊥
is_there [] i h e = absurd (omega arith)
is_there (x ∷ xs) zero h e = cc
is_there (x ∷ xs) (suc i) h e = is_there xs i (omega arith) e

-- the first behind so many elements
front_of_rest : {X : Type 0} (xs : List X) (i : ℕ) → slice_get (drop i xs) 0 ≡ slice_get xs i
front_of_rest [] zero = refl
front_of_rest [] (suc i) = refl
front_of_rest (x ∷ xs) zero = refl
front_of_rest (x ∷ xs) (suc i) = front_of_rest xs i

-- the first of what is left comes behind what was taken
pub take_first_left : {X : Type 0} (xs : List X) (i : ℕ) (x : X) → slice_get (drop i xs) 0 ≡ Some x → take (i + 1) xs ≡ take i xs ++ x ∷ []
take_first_left xs i x e = take_next xs i x (sym (front_of_rest xs i) ∙ e)

-- something is left
pub is_left : {X : Type 0} (xs : List X) (i : ℕ) → i < length xs → slice_get (drop i xs) 0 ≡ None → ⊥
is_left xs i h e = is_there xs i h (sym (front_of_rest xs i) ∙ e)

-- and is dropped
pub drop_first_left : {X : Type 0} (xs : List X) (i : ℕ) → drop 1 (drop i xs) ≡ drop (i + 1) xs
drop_first_left xs i = drop-drop 1 i xs
