-- What holds of a list with one element more holds of the list and of that element.
use Rattle.std.proofs.Common.{List, [], ◌∷◌, ◌++◌, All}
use Rattle.std.proofs.lemmas.List.Elements.{All-head, All-tail, All-nil, All-cons}

pub All-front : {X : Type 0} (P : X → Type 0) (xs : List X) (y : X) → All P (xs ++ y ∷ []) → All P xs
All-front P [] y h = All-nil P
All-front P (x ∷ xs) y h = All-cons P x xs (All-head P x (xs ++ y ∷ []) h) (All-front P xs y (All-tail P x (xs ++ y ∷ []) h))

pub All-back : {X : Type 0} (P : X → Type 0) (xs : List X) (y : X) → All P (xs ++ y ∷ []) → P y
All-back P [] y h = All-head P y [] h
All-back P (x ∷ xs) y h = All-back P xs y (All-tail P x (xs ++ y ∷ []) h)
