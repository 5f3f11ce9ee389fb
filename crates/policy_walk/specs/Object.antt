-- The objects of a policy: a table of keys for each (docs/POLICY.md, "Objects").
use Rattle.std.specs.Prelude.{⊤, ◌&&◌, ℕ, Bool, not, List, [], ◌∷◌, if◌then◌else◌, Option, Some, None, Ok, Err, is_some}
use Rattle.std.specs.List.{list_any}
use Rattle.std.specs.Borrow.{Bor}
use Rattle.std.specs.Option.{ok_or}
use Rattle.std.specs.Str.{bytes_eq}
use Rattle.serde_json.specs.Data.{Data, Members, no_members, member}
use Rattle.serde_json.specs.Find.{get, as_object}
use Rattle.policy_walk.specs.declared.fault.ConfigFault.{ConfigFault}
use Rattle.policy_walk.specs.declared.fault.ConfigFault.TheVariants.{UnknownKey, WrongType}
use Rattle.policy_walk.specs.Fault.{Read, ◌>>=◌}
use Rattle.policy_walk.specs.Path.{Path, at_key}

-- a row of an object's table: a key, and whether it must be there
abbrev pub Row : Type 0
Row = List ℕ × Bool

-- a row as the code has it
abbrev pub row_of : Bor (List ℕ) × Bool → Row
row_of row = (row.0.now, row.1)

abbrev pub is_known : List Row → List ℕ → Bool
is_known rows key = list_any (λ (row : Row). bytes_eq row.0 key) rows

-- the least key that the table doesn't have; an object's members stand in the order of their keys' bytes
abbrev pub unknown_key : List Row → Members → Option (List ℕ)
unknown_key rows no_members = None
unknown_key rows (member key d ms) = if is_known rows key then unknown_key rows ms else Some key

-- the first key of the table that must be there and isn't
abbrev pub missing_key : List Row → Data → Option (List ℕ)
missing_key [] d = None
missing_key (row ∷ rows) d = if row.1 && not (is_some (get row.0 d)) then Some row.0 else missing_key rows d

-- no fault where there is no such key
abbrev pub refuse : (Path → ConfigFault) → Path → Option (List ℕ) → Read ⊤
refuse fault path None = Ok tt
refuse fault path (Some key) = Err (fault (at_key path key))

-- the members of what has to be an object
abbrev pub members_at : Path → Data → Read Members
members_at path d = ok_or (as_object d) (WrongType path)

-- an object has first to be one, then to have known keys alone, and then each key that must be there
unfoldable pub judged : List Row → Path → Data → Read ⊤
judged rows path d = do
  members ← members_at path d
  known ← refuse UnknownKey path (unknown_key rows members)
  refuse WrongType path (missing_key rows d)

-- what stands under a key that must be there, with its path
abbrev pub required_at : List ℕ → Path → Data → Read Data
required_at key path d = ok_or (get key d) (WrongType (at_key path key))
