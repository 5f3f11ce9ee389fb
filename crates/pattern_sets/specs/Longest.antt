-- How long the longest of some patterns is.
use Rattle.std.specs.Prelude.{ℕ, ◌+◌, List, [], ◌∷◌, length, max, min}
use Rattle.subjects.specs.Subject.{Token, text_of}

-- in bytes
abbrev pub longest_text : List (List Token) → ℕ
longest_text [] = 0
longest_text (p ∷ ps) = max (length (text_of p)) (longest_text ps)

-- in tokens
abbrev pub longest : List (List Token) → ℕ
longest [] = 0
longest (p ∷ ps) = max (length p) (longest ps)

-- how many tokens are enough to be asked about: one more than the longest has, and 512 at most
abbrev pub most_tokens : List (List Token) → ℕ
most_tokens patterns = min (longest patterns + 1) 512
