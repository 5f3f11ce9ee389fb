-- Which tokens of a pattern it is found by, and the hash of a text's tokens at these places.
use Rattle.std.specs.Prelude.{◌≡◌, ◌==◌, ◌<◌, ◌⊎◌, ◌/◌, ◌%◌, ◌∷◌, [], ℕ, Bool, true, false, List, length, Contains, if◌then◌else◌}
use Rattle.std.specs.List.{slice_index_or}
use Rattle.subjects.specs.Subject.{Token, is_star, is_tail}
use Rattle.subjects.specs.Fingerprint.{hash_from}
use Rattle.subjects.specs.pattern_groups.Links.{at}

-- Places are the bits of a number, the lowest for the first token.

-- a hash with the tokens at places
abbrev pub hash_with : ℕ → ℕ → List Token → ℕ
hash_with places n [] = n
hash_with places n (t ∷ ts) = hash_with (places / 2) (if places % 2 == 1 then hash_from n t else n) ts

-- the hash of the tokens at places
abbrev pub hash_at : ℕ → List Token → ℕ
hash_at places tokens = hash_with places places tokens

-- at each of the places a pattern has a literal token, with no `>` before it
abbrev pub AreLiteral : ℕ → List Token → Type 0
AreLiteral places [] = places ≡ 0
AreLiteral places (t ∷ ts) =
    (places ≡ 0) ⊎ ((is_tail t ≡ false) × (places % 2 ≡ 1 → is_star t ≡ false) × AreLiteral (places / 2) ts)

-- the hashes of patterns, and all the choices of places that they are of
pub record Hashed : Type 0 where
  pub hashes : List ℕ
  pub choices : List ℕ

-- the pattern at an index
abbrev pub pattern_at : List (List Token) → ℕ → List Token
pattern_at patterns i = slice_index_or patterns i []

-- beside each pattern stand its hash, and the places that it is of
pub record AreHashed (patterns : List (List Token)) (hashes choices : List ℕ) : Type 0 where
  pub as_many : length hashes ≡ length patterns
  pub one_each : length choices ≡ length patterns
  pub literal : (j : ℕ) → j < length patterns → AreLiteral (at choices j) (pattern_at patterns j)
  pub hash : (j : ℕ) → j < length patterns → at hashes j ≡ hash_at (at choices j) (pattern_at patterns j)

-- a pattern's hash is of some choice
pub record IsHashed (pattern : List Token) (choices : List ℕ) (hash : ℕ) : Type 0 where
  pub places : ℕ
  pub chosen : Contains choices places
  pub literal : AreLiteral places pattern
  pub hash_is : hash ≡ hash_at places pattern

-- each pattern has its hash
pub record IsIndexOf (patterns : List (List Token)) (index : Hashed) : Type 0 where
  pub as_many : length index.hashes ≡ length patterns
  pub each : (j : ℕ) → j < length patterns → IsHashed (pattern_at patterns j) index.choices (at index.hashes j)

-- this is the hash of the tokens by one of the choices, from an index on
abbrev pub IsOneOf : List ℕ → ℕ → List Token → ℕ → Type 0
IsOneOf choices from tokens k = (i : ℕ) × (i < length choices) × (i < from → ⊥) × (k ≡ hash_at (at choices i) tokens)

-- what passes has one of the tokens' hashes
abbrev pub PassesByHash : (ℕ → Bool) → Hashed → List Token → Type 0
PassesByHash passes index tokens = (j : ℕ) → j < length index.hashes → passes j ≡ true → IsOneOf index.choices 0 tokens (at index.hashes j)
