-- A run as the list of its texts.
use Rattle.std.proofs.Common.{◌≡◌, ℕ, ◌+◌, ◌<◌, List, ◌∷◌, length, drop, map, get_or, ap, ◌∙◌, arith, length-drop}
use Rattle.std.proofs.lemmas.List.{drop_more, get_or-drop, get_or-map, length-map}

-- what stands in front behind the first ones
pub at_index : {X Y : Type 0} (f : X → Y) (xs : List X) (gone i : ℕ) (d : X) → gone + i < length xs →
    drop i (map f (drop gone xs)) ≡ f (get_or xs (gone + i) d) ∷ drop (i + 1) (map f (drop gone xs))
at_index f xs gone i d within =
    let left = drop gone xs in
    let few : i < length left = omega (arith, length-drop gone xs) in
    drop_more (map f left) i (f d) (omega (arith, few, length-map left f))
    ∙ ap (λ y. y ∷ drop (i + 1) (map f left)) (get_or-map f left i d (f d) few ∙ ap f (get_or-drop gone xs i d))
