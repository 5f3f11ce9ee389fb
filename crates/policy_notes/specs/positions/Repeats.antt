-- Keys that stand twice in one object (docs/POLICY.md, "Where a fault stands").
use Rattle.std.specs.Prelude.{ℕ, ◌++◌, ◌&&◌, ◌==◌, List, [], ◌∷◌, Option, None, Some, if◌then◌else◌}
use Rattle.std.specs.Str.{bytes_eq}
use Rattle.policy_walk.specs.Path.{Path}
use Rattle.policy_notes.specs.declared.positions.repeats.Repeat.{Repeat}
use Rattle.policy_notes.specs.declared.positions.spots.Spot.{Spot}

-- a key that stands again: its part of a path, where it stood before, and where it stands again
pub record Repeated : Type 0 where
  pub name : Path
  pub first : ℕ
  pub again : ℕ

abbrev pub repeated : Repeat → Repeated
repeated r = record { name = r.name.now; first = r.first; again = r.again }

-- where names were seen last, each in its object or list
abbrev pub Seen : Type 0
Seen = ℕ → Path → Option ℕ

abbrev pub nothing_seen : Seen
nothing_seen container name = None

abbrev pub with_seen : Spot → Seen → Seen
with_seen s seen container name = if (s.container == container) && bytes_eq s.name name then Some s.at else seen container name

abbrev pub repeated_at : Spot → Option ℕ → List Repeated
repeated_at s None = []
repeated_at s (Some first) = record { name = s.name; first = first; again = s.at } ∷ []

-- the spots whose name was seen before in their object or list
unfoldable pub repeats_behind : Seen → List Spot → List Repeated
repeats_behind seen [] = []
repeats_behind seen (s ∷ ss) = repeated_at s (seen s.container s.name) ++ repeats_behind (with_seen s seen) ss

abbrev pub repeats_of : List Spot → List Repeated
repeats_of spots = repeats_behind nothing_seen spots
