-- Mappings between the subjects of two accounts (NATS documentation, "Subject Mapping and Partitioning";
-- docs/GUARANTEE.md, "Mappings").
use Rattle.std.specs.Prelude.{◌≡◌, ◌<◌, ◌≤◌, ◌+◌, ◌-◌, ◌==◌, ℕ, Bool, true, false, IsTrue, List, [], ◌∷◌, length, map, drop, get_or, Option, Some, None, Result, Ok, Err, ◌⊎◌, if◌then◌else◌, nat_lt}
use Rattle.std.specs.List.{list_all, range_with_len, position_or_len}
use Rattle.subjects.specs.Subject.{Token, is_star, is_tail, is_literal, in_set, IsPattern, IsConcreteSubject}
pub use Rattle.mapping.specs.templates.Wildcards.{are_within, contains, count_stars, has_each, has_repeat, has_tail, refers_to_each}
use Rattle.mapping.specs.declared.error.MapError.{MapError}
use Rattle.mapping.specs.declared.error.MapError.TheVariants.{TooLong, NoMemory}

-- A mapping: the outer pattern, which the exporting account's subjects have; the local one, which the importer's have; and,
-- of each `*` of the local pattern in order, the number of the outer pattern's `*` with the same token, from 1.
pub record RowMap : Type 0 where
  pub outer : List Token
  pub local : List Token
  pub references : List ℕ

-- the token with a number, from 1
abbrev pub numbered : List Token → ℕ → Token
numbered ts n = get_or ts (n - 1) []

-- a pattern's tokens, where these stand for its `*`s, in order, and these for its `>`
abbrev pub filled : List Token → List Token → List Token → List Token
filled [] stars tail = []
filled (p ∷ ps) stars tail =
    if is_tail p then tail
    else (if is_star p then numbered stars 1 ∷ filled ps (drop 1 stars) tail else p ∷ filled ps stars tail)

-- a literal token for each `*`, and one or more for a `>`
pub record IsGiven (pattern stars tail : List Token) : Type 0 where
  pub each : length stars ≡ count_stars pattern
  pub literal : IsTrue (list_all is_literal stars)
  pub rest : IsConcreteSubject tail

-- An outer subject and a local one are a pair where they have the same token for each wildcard, and the same tokens for `>`.
pub record IsPair (m : RowMap) (outer local : List Token) : Type 0 where
  pub stars : List Token
  pub tail : List Token
  pub given : IsGiven m.outer stars tail
  pub outer_is : outer ≡ filled m.outer stars tail
  pub local_is : local ≡ filled m.local (map (numbered stars) m.references) tail

-- what every mapping is: each wildcard of the one pattern stands once in the other, and both end in `>` or neither
pub record IsRowMap (m : RowMap) : Type 0 where
  pub outer : IsPattern m.outer
  pub local : IsPattern m.local
  pub tails : has_tail m.local ≡ has_tail m.outer
  pub stars : count_stars m.local ≡ length m.references
  pub each : refers_to_each (count_stars m.outer) m.references ≡ true
  pub once : has_repeat m.references ≡ false

-- what stands in a subject for a pattern's `*`s, and for its `>`
abbrev pub stars_of : List Token → List Token → List Token
stars_of [] ss = []
stars_of (p ∷ ps) [] = []
stars_of (p ∷ ps) (s ∷ ss) =
    if is_tail p then [] else (if is_star p then s ∷ stars_of ps ss else stars_of ps ss)

abbrev pub tail_of : List Token → List Token → List Token
tail_of [] ss = ss
tail_of (p ∷ ps) [] = []
tail_of (p ∷ ps) (s ∷ ss) = if is_tail p then s ∷ ss else tail_of ps ss

-- a subject of the first pattern as one of the second
abbrev pub carried : List Token → List Token → List ℕ → List Token → Option (List Token)
carried from to references subject =
    if in_set from subject
    then Some (filled to (map (numbered (stars_of from subject)) references) (tail_of from subject))
    else None

-- of each wildcard in order, by the number of the reference to it, from 1
abbrev pub inverse : ℕ → List ℕ → List ℕ
inverse count references = map (λ n. position_or_len (λ m. m == n) references + 1) (range_with_len 1 count)

-- the local subject of an outer one
abbrev pub forward : RowMap → List Token → Option (List Token)
forward m outer = carried m.outer m.local m.references outer

-- the outer subject of a local one
abbrev pub back : RowMap → List Token → Option (List Token)
back m local = carried m.local m.outer (inverse (count_stars m.outer) m.references) local

-- the other side is answered where there is one, has at most 512 tokens, and memory can be had
abbrev pub IsSent : Bool → List Token → Result (Option (List Token)) MapError → Type 0
IsSent true ts answer = answer ≡ Err TooLong
IsSent false ts answer = (answer ≡ Ok (Some ts)) ⊎ (answer ≡ Err NoMemory)

abbrev pub IsMapped : Option (List Token) → Result (Option (List Token)) MapError → Type 0
IsMapped None answer = answer ≡ Ok None
IsMapped (Some ts) answer = IsSent (nat_lt 512 (length ts)) ts answer

-- the same by the pairs: which they are, and none where the subject is in none
abbrev pub IsSide : (List Token → Type 0) → Result (Option (List Token)) MapError → Type 0
IsSide pairs (Ok (Some ts)) = pairs ts × (length ts ≤ 512)
IsSide pairs (Ok None) = (ts : List Token) → ¬ pairs ts
IsSide pairs (Err TooLong) = (ts : List Token) × pairs ts × (512 < length ts)
IsSide pairs (Err NoMemory) = (ts : List Token) × pairs ts × (length ts ≤ 512)
