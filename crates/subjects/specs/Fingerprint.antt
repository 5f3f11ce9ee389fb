-- Hashes of patterns: whoever covers a pattern has none, or one of the pattern's.
use Rattle.std.specs.Prelude.{◌≡◌, ◌+◌, ◌*◌, ◌%◌, ◌^◌, ◌∷◌, ℕ, List, [], if◌then◌else◌}
use Rattle.subjects.specs.Subject.{Token, is_wildcard}
use Rattle.subjects.specs.declared.fingerprint.Fingerprint.{Fingerprint}

abbrev pub with_byte : ℕ → ℕ → ℕ
with_byte n b = ((n * 31) % 2 ^ 32 + b) % 2 ^ 32

-- a hash with more bytes
abbrev pub hash_from : ℕ → List ℕ → ℕ
hash_from n [] = n
hash_from n (b ∷ bs) = hash_from (with_byte n b) bs

-- a hash of a token
abbrev pub hash_of : Token → ℕ
hash_of t = hash_from 7 t

-- a hash of two tokens, by theirs
abbrev pub joined : ℕ → ℕ → ℕ
joined n m = ((n * 131) % 2 ^ 32 + m) % 2 ^ 32

-- that of the first token; a wildcard has none
abbrev pub front_of : List Token → ℕ
front_of [] = 0
front_of (t ∷ ts) = if is_wildcard t then 0 else hash_of t

abbrev pub with_second : ℕ → List Token → ℕ
with_second n [] = n
with_second n (t ∷ ts) = if is_wildcard t then n else joined n (hash_of t)

-- that of the first two tokens, or of the first where the second is none or a wildcard
abbrev pub whole_of : List Token → ℕ
whole_of [] = 0
whole_of (t ∷ ts) = if is_wildcard t then 0 else with_second (hash_of t) ts

-- the hashes of a pattern with these tokens
pub record IsFingerprintOf (tokens : List Token) (fingerprint : Fingerprint) : Type 0 where
  pub front : fingerprint.front ≡ front_of tokens
  pub whole : fingerprint.whole ≡ whole_of tokens
