-- What has a connection that none before it has.
use Rattle.std.proofs.Common.{get_or, suc, length, ◌≡◌, ◌∙◌, ◌==◌, ◌<◌, ℕ, false, List, [], ◌∷◌, ◌||◌, map, take, ap, sym, refl, arith}
use Rattle.std.specs.Prelude.{AllPairs, ◌≢◌}
use Rattle.std.specs.List.{list_any}
use Rattle.std.proofs.lemmas.List.{length-take-le, get_or-take, get_or_default}
use Rattle.std.proofs.lemmas.Bool.{ne_eqb}

-- a number that none of a list has
no_key : {X : Type 0} (f : X → ℕ) (n : ℕ) (xs : List X) → ((k : ℕ) (d : X) → k < length xs → (n == f (get_or xs k d)) ≡ false) → list_any (λ k. n == k) (map f xs) ≡ false
no_key f n [] other = refl
no_key f n (x ∷ xs) other =
    ap (λ b. b || list_any (λ k. n == k) (map f xs)) (other 0 x (omega arith))
    ∙ no_key f n xs (λ k d h. other (suc k) d (omega arith))

-- where no two have the same, that of one is none of those before it
pub new_key : {X : Type 0} (f : X → ℕ) (xs : List X) (i : ℕ) (x : X) → AllPairs (λ (y z : X). f y ≢ f z) xs → i < length xs → x ≡ get_or xs i x →
    list_any (λ k. f x == k) (map f (take i xs)) ≡ false
new_key {X = X} f xs i x apart h is = no_key f (f x) (take i xs) other
  where
    other : (k : ℕ) (d : X) → k < length (take i xs) → (f x == f (get_or (take i xs) k d)) ≡ false
    other k d l =
        let before : k < i = omega (arith, length-take-le i xs (omega arith)) in
        ap (λ y. f x == f y) (get_or-take i xs k d before)
        ∙ ne_eqb _ _ (λ e. apart k i d before h (sym e ∙ ap f (is ∙ get_or_default xs i x d h)))
