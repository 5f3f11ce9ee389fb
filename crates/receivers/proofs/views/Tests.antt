-- Lists by tests of their elements.
use Rattle.std.proofs.Common.{◌≡◌, ◌&&◌, Bool, true, false, cond, List, [], ◌∷◌, Some, filter, ap, refl, inl, inr}
use Rattle.std.specs.Prelude.{find}
use Rattle.std.proofs.lemmas.Bool.{cases_Bool}

-- those that pass one test and then another pass both
pub both : {X : Type 0} (p q : X → Bool) (xs : List X) → filter p (filter q xs) ≡ filter (λ x. q x && p x) xs
both p q [] = refl
both p q (x ∷ xs) = elim (cases_Bool (q x)) [
  | inl y ↦ rw y (ap (λ ys. cond (p x) (x ∷ ys) ys) (both p q xs))
  | inr e ↦ rw e (both p q xs)
]

-- what a test finds passes it
pub find-passes : {X : Type 0} (t : X → Bool) (xs : List X) (y : X) → find t xs ≡ Some y → t y ≡ true
find-passes t [] y e = absurd (cc)
find-passes t (x ∷ xs) y e = here (t x) refl e (find-passes t xs y)
  where
    here : (b : Bool) → t x ≡ b → cond b (Some x) (find t xs) ≡ Some y → (find t xs ≡ Some y → t y ≡ true) → t y ≡ true
    here true h e' later = cc
    here false h e' later = later e'
