-- Parts of patterns, what two of them have in common, and its sample (docs/GUARANTEE.md, "Comparing sets of subjects").
use Rattle.std.specs.Prelude.{◌||◌, ◌∷◌, ℕ, zero, suc, Bool, List, [], Option, Some, None, if◌then◌else◌}
use Rattle.std.specs.Option.{option_map}
use Rattle.std.specs.Cmp.Lexicographic.{pointwise}
use Rattle.subjects.specs.Subject.{Token, is_star, is_tail, same_token}

-- any one token, and any one or more in last place
abbrev pub star : Token
star = 42 ∷ []

abbrev pub tail : Token
tail = 62 ∷ []

-- what stands for a last `>`: as many stars as there are tokens, of which the last stays `>` where a tail is asked about
abbrev pub filled : Bool → ℕ → List Token
filled has_tail zero = []
filled has_tail (suc zero) = (if has_tail then tail else star) ∷ []
filled has_tail (suc (suc n)) = star ∷ filled has_tail (suc n)

-- the part of a pattern that has so many tokens, and ends in `>` or doesn't
abbrev pub part : Bool → ℕ → List Token → Option (List Token)
part has_tail zero [] = if has_tail then None else Some []
part has_tail zero (t ∷ ts) = None
part has_tail (suc n) [] = None
part has_tail (suc n) (t ∷ ts) = if is_tail t then Some (filled has_tail (suc n)) else option_map (λ us. t ∷ us) (part has_tail n ts)

-- some token is one of both
abbrev pub agree : Token → Token → Bool
agree s t = is_star s || is_star t || same_token s t

abbrev pub meet : List Token → List Token → Bool
meet = pointwise agree

-- the literal of two tokens that agree, or the fresh one where both are stars
abbrev pub either : Token → Token → Token → Token
either fresh s t = if is_star s then (if is_star t then fresh else t) else s

abbrev pub either_each : Token → List Token → List Token → List Token
either_each fresh [] ts = []
either_each fresh (s ∷ ss) [] = []
either_each fresh (s ∷ ss) (t ∷ ts) = either fresh s t ∷ either_each fresh ss ts

-- the sample of what two parts have in common, if they have something
abbrev pub sample : Token → List Token → List Token → Option (List Token)
sample fresh ss ts = if meet ss ts then Some (either_each fresh ss ts) else None
