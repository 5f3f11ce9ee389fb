-- Texts made of tokens.
use Rattle.std.specs.Prelude.{◌==◌, ◌++◌, ◌∷◌, ℕ, List, [], length, if◌then◌else◌}
use Rattle.subjects.specs.Subject.{Token}

-- a text with one token more
abbrev pub with_token : List ℕ → Token → List ℕ
with_token text t = if length text == 0 then t else text ++ 46 ∷ t

abbrev pub with_tokens : List ℕ → List Token → List ℕ
with_tokens text [] = text
with_tokens text (t ∷ ts) = with_tokens (with_token text t) ts
