-- The two sides of a mapping, as they are kept.
use Rattle.std.specs.Prelude.{◌≡◌, ◌+◌, List, length, map, true}
use Rattle.subjects.specs.Subject.{Token, IsPattern}
use Rattle.mapping.specs.Pairs.{RowMap, count_stars, has_tail, are_within, filled, inverse, numbered, stars_of, tail_of}
use Rattle.mapping.specs.declared.side.Side.{Side}

-- the mapping that two sides are
abbrev pub row_map : Side → Side → RowMap
row_map outer local = record { outer = outer.pattern; local = local.pattern; references = local.references.items }

-- the rest of what is kept goes by that mapping
pub record AreOf (outer local : Side) : Type 0 where
  pub inverse : outer.references.items ≡ inverse (count_stars outer.pattern) local.references.items
  pub outer_most : outer.most + length local.pattern ≡ 512 + length outer.pattern
  pub local_most : local.most + length outer.pattern ≡ 512 + length local.pattern

-- the other side of a subject of the first
abbrev pub other_side : Side → Side → List Token → List Token
other_side from to subject =
    filled to.pattern (map (numbered (stars_of from.pattern subject)) to.references.items) (tail_of from.pattern subject)

-- subjects of the first side can be carried to the second
pub record AreSides (from to : Side) : Type 0 where
  pub from_pattern : IsPattern from.pattern
  pub to_pattern : IsPattern to.pattern
  pub tails : has_tail to.pattern ≡ has_tail from.pattern
  pub stars : count_stars to.pattern ≡ length to.references.items
  pub within : are_within (count_stars from.pattern) to.references.items ≡ true
  pub most : from.most + length to.pattern ≡ 512 + length from.pattern
