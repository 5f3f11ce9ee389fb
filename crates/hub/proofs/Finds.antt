-- The first element that passes a test, in a filtered list.
use Rattle.std.proofs.Common.{◌≡◌, ◌∙◌, ◌<◌, ◌||◌, Bool, true, false, cond, List, [], ◌∷◌, map, filter, length, Some, None, ap, refl, arith}
use Rattle.std.specs.Prelude.{find, All, AllPairs}
use Rattle.std.specs.List.{list_any}
use Rattle.std.proofs.lemmas.List.{get_or-map, length-map}
use Rattle.std.proofs.lemmas.List.Elements.{All-cons, All-nil}
pub use Rattle.world.proofs.Handed.{find-passes}
pub use Rattle.world.proofs.Handed.{find-All}
pub use Rattle.base.proofs.list_laws.Finds.{find-map, find-filter, find-nothing, AllPairs-head, AllPairs-tail}

pub find-none : {X : Type 0} (t : X → Bool) (xs : List X) → find t xs ≡ None → All (λ x. t x ≡ false) xs
find-none t [] e = All-nil (λ x. t x ≡ false)
find-none t (x ∷ xs) e = here (t x) refl e (find-none t xs)
  where
    here : (b : Bool) → t x ≡ b → cond b (Some x) (find t xs) ≡ None → (find t xs ≡ None → All (λ x. t x ≡ false) xs) → All (λ x. t x ≡ false) (x ∷ xs)
    here true h e' later = absurd (cc)
    here false h e' later = All-cons (λ x. t x ≡ false) x xs h (later e')

-- where a test finds nothing, each element fails it
pub any-none : {X : Type 0} (t : X → Bool) (xs : List X) → list_any t xs ≡ false → All (λ x. t x ≡ false) xs
any-none t [] e = All-nil (λ x. t x ≡ false)
any-none t (x ∷ xs) e = here (t x) refl e (any-none t xs)
  where
    here : (b : Bool) → t x ≡ b → (b || list_any t xs) ≡ false → (list_any t xs ≡ false → All (λ x. t x ≡ false) xs) → All (λ x. t x ≡ false) (x ∷ xs)
    here true h e' later = absurd (cc)
    here false h e' later = All-cons (λ x. t x ≡ false) x xs h (later e')

-- a map that the relation doesn't see
pub AllPairs-map : {X : Type 0} (R : X → X → Type 0) (f : X → X) (xs : List X) → ((x y : X) → R x y → R (f x) (f y)) → AllPairs R xs → AllPairs R (map f xs)
AllPairs-map R f xs kept all i j d h k =
    let lj : j < length xs = omega (arith, length-map xs f) in
    rw (get_or-map f xs i d d (omega arith), get_or-map f xs j d d lj) (kept _ _ (all i j d h lj))
