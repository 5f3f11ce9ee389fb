-- The first of a list's elements, mapped twice.
use Rattle.std.proofs.Common.{◌≡◌, ◌≤◌, ℕ, zero, suc, List, [], ◌∷◌, length, map, take, min, arith, refl, sym, ap, ◌∙◌}
use Rattle.std.proofs.lemmas.Grind.{common_steps}

take_mapped : {X Y Z : Type 0} (f : X → Y) (w : Y → Z) (xs : List X) (n : ℕ) → map (λ x. w (f x)) (take n xs) ≡ map w (take n (map f xs))
take_mapped f w [] zero = refl
take_mapped f w [] (suc n) = refl
take_mapped f w (x ∷ xs) zero = refl
take_mapped f w (x ∷ xs) (suc n) = ap (λ l. w (f x) ∷ l) (take_mapped f w xs n)

take_least : {X : Type 0} (xs : List X) (n : ℕ) → take (min (length xs) n) xs ≡ take n xs
take_least xs n = grind (arith, common_steps)

pub take_few : {X Y Z : Type 0} (f : X → Y) (w : Y → Z) (xs : List X) (n : ℕ) → map (λ x. w (f x)) (take (min (length xs) n) xs) ≡ map w (take n (map f xs))
take_few f w xs n = ap (map (λ x. w (f x))) (take_least xs n) ∙ take_mapped f w xs n
