-- The first element that passes a test, in a list of which each element is changed or some are kept; and what holds of pairs.
use Rattle.std.proofs.Common.{◌≡◌, ◌∙◌, suc, Bool, true, false, cond, List, [], ◌∷◌, ◌++◌, map, filter, Some, None, ap, refl, arith}
use Rattle.std.specs.Prelude.{find, All, AllPairs}
use Rattle.std.specs.Option.{option_map}
use Rattle.std.proofs.lemmas.List.Elements.{All-head, All-tail, All-cons, All-nil}

-- a map that the test doesn't see
pub find-map : {X : Type 0} (t : X → Bool) (f : X → X) (xs : List X) → ((x : X) → t (f x) ≡ t x) → find t (map f xs) ≡ option_map f (find t xs)
find-map t f [] same = refl
find-map t f (x ∷ xs) same = ap (λ b. cond b (Some (f x)) (find t (map f xs))) (same x) ∙ here (t x) (find-map t f xs same)
  where
    here : (b : Bool) → find t (map f xs) ≡ option_map f (find t xs) → cond b (Some (f x)) (find t (map f xs)) ≡ option_map f (cond b (Some x) (find t xs))
    here true later = refl
    here false later = later

-- a filter that lets through all that the test finds
pub find-filter : {X : Type 0} (t p : X → Bool) (xs : List X) → ((x : X) → t x ≡ true → p x ≡ true) → find t (filter p xs) ≡ find t xs
find-filter t p [] kept = refl
find-filter t p (x ∷ xs) kept = here (p x) (t x) refl refl (find-filter t p xs kept)
  where
    here : (b c : Bool) → p x ≡ b → t x ≡ c → find t (filter p xs) ≡ find t xs → find t (cond b (x ∷ filter p xs) (filter p xs)) ≡ cond c (Some x) (find t xs)
    here true true h k later = ap (λ d. cond d (Some x) (find t (filter p xs))) k
    here true false h k later = ap (λ d. cond d (Some x) (find t (filter p xs))) k ∙ later
    here false true h k later = let q : p x ≡ true = kept x k in absurd (cc)
    here false false h k later = later

-- where each element fails the test, it finds nothing
pub find-nothing : {X : Type 0} (t : X → Bool) (xs : List X) → All (λ x. t x ≡ false) xs → find t xs ≡ None
find-nothing t [] none = refl
find-nothing t (x ∷ xs) none =
    ap (λ b. cond b (Some x) (find t xs)) (All-head (λ y. t y ≡ false) x xs none) ∙ find-nothing t xs (All-tail (λ y. t y ≡ false) x xs none)

-- what holds of all pairs holds of the first and each other one
pub AllPairs-head : {X : Type 0} (R : X → X → Type 0) (x : X) (xs : List X) → AllPairs R (x ∷ xs) → All (R x) xs
AllPairs-head R x xs all k d h = all 0 (suc k) d (omega arith) (omega arith)

pub AllPairs-tail : {X : Type 0} (R : X → X → Type 0) (x : X) (xs : List X) → AllPairs R (x ∷ xs) → AllPairs R xs
AllPairs-tail R x xs all i j d h k = all (suc i) (suc j) d (omega arith) (omega arith)

-- and of each of the first ones and the next
pub AllPairs-next : {X : Type 0} (R : X → X → Type 0) (xs : List X) (x : X) (ys : List X) → AllPairs R (xs ++ x ∷ ys) → All (λ y. R y x) xs
AllPairs-next {X = X} R [] x ys all = All-nil (λ y. R y x)
AllPairs-next {X = X} R (y ∷ xs) x ys all =
    All-cons (λ z. R z x) y xs (All-head (R y) x ys (behind xs (AllPairs-head R y (xs ++ x ∷ ys) all))) (AllPairs-next R xs x ys (AllPairs-tail R y (xs ++ x ∷ ys) all))
  where
    behind : (front : List X) → All (R y) (front ++ x ∷ ys) → All (R y) (x ∷ ys)
    behind [] of = of
    behind (z ∷ front) of = behind front (All-tail (R y) z (front ++ x ∷ ys) of)
