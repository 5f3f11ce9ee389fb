-- Hashes of the literal tokens that a pattern begins with. A pattern has no subject that doesn't begin with them.
use Rattle.std.specs.Prelude.{◌≡◌, ◌∷◌, ◌⊎◌, ℕ, List, [], if◌then◌else◌}
use Rattle.subjects.specs.Subject.{Token, is_wildcard, tokens_of}
use Rattle.subjects.specs.Fingerprint.{hash_from}

-- a hash with the tokens in front of the first wildcard
abbrev pub front_from : ℕ → List Token → ℕ
front_from n [] = n
front_from n (t ∷ ts) = if is_wildcard t then n else front_from (hash_from n t) ts

-- this is the hash with some of the first tokens: none, or more of them
abbrev pub IsOfFront : ℕ → ℕ → List Token → Type 0
IsOfFront k n [] = k ≡ n
IsOfFront k n (t ∷ ts) = (k ≡ n) ⊎ IsOfFront k (hash_from n t) ts

-- a hash with the first token of a text, and the tokens behind it
abbrev pub IsPast : ℕ → List ℕ → ℕ → List Token → Type 0
IsPast n text m behind = (t : Token) × (tokens_of text ≡ t ∷ behind) × (m ≡ hash_from n t)
