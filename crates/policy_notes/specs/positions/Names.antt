-- What a path names among the spots of a text (docs/POLICY.md, "Where a fault stands").
use Rattle.std.specs.Prelude.{ℕ, ◌++◌, ◌&&◌, ◌==◌, List, [], ◌∷◌, Bool, true, false, Option, None, Some, codes, drop}
use Rattle.std.specs.Str.{bytes_eq}
use Rattle.base.specs.Pieces.{pieces_of}
use Rattle.policy_walk.specs.Path.{Path}
use Rattle.policy_notes.specs.declared.positions.spots.Spot.{Spot}
use Rattle.policy_notes.specs.declared.positions.names.Found.{Found}

abbrev pub found_at : ℕ → ℕ → Found
found_at at value = record { at = at; value = value }

-- whether a spot is that of this part of a path, in the object or list that begins there
abbrev pub is_named : ℕ → List ℕ → Spot → Bool
is_named container part s = (s.container == container) && bytes_eq s.name (codes "/" ++ part)

abbrev pub later_if : Bool → Spot → Option Found → Option Found
later_if true s found = Some (found_at s.at s.value)
later_if false s found = found

-- the last of the spots that is, since of equal keys the last counts
unfoldable pub last_of : ℕ → List ℕ → Option Found → List Spot → Option Found
last_of container part found [] = found
last_of container part found (s ∷ ss) = last_of container part (later_if (is_named container part s) s found) ss

-- what was found leads on; where nothing was, there stays what was found before
abbrev pub named_by : Option ℕ → (Found → Option ℕ) → Option Found → Option ℕ
named_by at on None = at
named_by at on (Some found) = on found

-- where stands what the parts name, each in what the one before it names
unfoldable pub named_from : List Spot → ℕ → Option ℕ → List (List ℕ) → Option ℕ
named_from spots container at [] = at
named_from spots container at (part ∷ parts) = named_by at (λ found. named_from spots found.value (Some found.at) parts) (last_of container part None spots)

-- the object or list that a text is begins where its first spot says
abbrev pub begin_of : List Spot → ℕ
begin_of [] = 0
begin_of (s ∷ ss) = s.container

-- a path is `/` before each of its parts
abbrev pub at_of : List Spot → Path → Option ℕ
at_of spots path = named_from spots (begin_of spots) None (drop 1 (pieces_of 47 path))
