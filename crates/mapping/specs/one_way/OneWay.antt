-- Mappings in one direction (docs/GUARANTEE.md, "Mappings").
use Rattle.std.specs.Prelude.{◌≡◌, ◌+◌, ℕ, List, length, map, true}
use Rattle.subjects.specs.Subject.{Token, IsPattern}
use Rattle.mapping.specs.templates.Wildcards.{are_within, count_stars, has_tail}
use Rattle.mapping.specs.Pairs.{RowMap, filled, numbered, stars_of, tail_of}

-- What every mapping in one direction is: each `*` of the local pattern refers to one of the outer pattern, and both end in
-- `>` or neither.
pub record IsOneWay (m : RowMap) : Type 0 where
  pub outer : IsPattern m.outer
  pub local : IsPattern m.local
  pub tails : has_tail m.local ≡ has_tail m.outer
  pub stars : count_stars m.local ≡ length m.references
  pub within : are_within (count_stars m.outer) m.references ≡ true

-- the mapping of these patterns
abbrev pub way : List Token → List Token → List ℕ → RowMap
way outer local references = record { outer = outer; local = local; references = references }

-- a subject of at most so many tokens is mapped to one of at most 512
abbrev pub IsMost : ℕ → RowMap → Type 0
IsMost most m = most + length m.local ≡ 512 + length m.outer

-- what a subject of the outer pattern is mapped to
abbrev pub mapped : RowMap → List Token → List Token
mapped m subject = filled m.local (map (numbered (stars_of m.outer subject)) m.references) (tail_of m.outer subject)
