-- Steps of loops over lists.
use Rattle.std.proofs.Common.{◌≡◌, List, [], ◌∷◌, ◌++◌, Option, Some, None, refl}
use Rattle.std.specs.List.{filter_map, cons_option}

-- what the first gives, and then what the others do
pub filter_map_first : {X Y : Type 0} (h : X → Option Y) (x : X) (xs : List X) → filter_map h (x ∷ xs) ≡ filter_map h (x ∷ []) ++ filter_map h xs
filter_map_first {X} {Y} h x xs = here (h x)
  where
    here : (o : Option Y) → cons_option o (filter_map h xs) ≡ cons_option o [] ++ filter_map h xs
    here None = refl
    here (Some y) = refl
