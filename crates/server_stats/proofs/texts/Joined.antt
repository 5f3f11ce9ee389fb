-- A text that is written part by part.
use Rattle.std.proofs.Common.{◌≡◌, ◌∙◌, ◌++◌, ℕ, List, ap}
use Rattle.std.proofs.lemmas.List.{append_assoc}

-- one part, and then another
pub joined_then : (old between new one other : List ℕ) → between ≡ old ++ one → new ≡ between ++ other → new ≡ old ++ (one ++ other)
joined_then old between new one other first next = next ∙ ap (λ (text : List ℕ). text ++ other) first ∙ append_assoc old one other
