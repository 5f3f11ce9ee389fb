-- The faults of objects by their tables of keys, of texts and of lists (docs/POLICY.md, "Objects"). Nothing here says which comes first.
use Rattle.std.specs.Prelude.{◌&&◌, ◌||◌, ◌∷◌, ℕ, zero, suc, Bool, false, not, List, [], if◌then◌else◌, Option, Some, None, is_some}
use Rattle.std.specs.Str.{bytes_eq}
use Rattle.serde_json.specs.Data.{Data}
use Rattle.serde_json.specs.Find.{get, at, as_str, as_array, as_object}
use Rattle.policy_walk.specs.declared.fault.ConfigFault.{ConfigFault}
use Rattle.policy_walk.specs.declared.fault.ConfigFault.TheVariants.{UnknownKey, WrongType}
use Rattle.policy_walk.specs.Path.{Path, at_key, at_index}
use Rattle.policy_text.specs.account_config.Place.{itself, unknown, missing, under, named, Faults}

-- a key of an object with the faults of what stands under it: it has to be there, or it may be, or it has two spellings
pub data Key : Type 0 where
  required : List ℕ → (Path → Data → Faults) → Key
  optional : List ℕ → (Path → Data → Faults) → Key
  spelled : List ℕ → List ℕ → (Path → Data → Faults) → Key

-- a fault where nothing was found
abbrev pub unless_found : {X : Type 0} → Option X → ConfigFault → Option ConfigFault
unless_found None fault = Some fault
unless_found (Some x) fault = None

-- the faults of a value, if it is there
abbrev pub in_value : (Path → Data → Faults) → Path → Option Data → Faults
in_value faults path None p = None
in_value faults path (Some d) p = faults path d p

-- the faults under one of two spellings. That both are there is a fault of the direction itself, at the shorter
abbrev pub in_spelled : (Path → Data → Faults) → Path → Path → Option Data → Option Data → Faults
in_spelled faults long short None found p = in_value faults short found p
in_spelled faults long short (Some d) None p = faults long d p
in_spelled faults long short (Some d) (Some e) itself = Some (WrongType short)
in_spelled faults long short (Some d) (Some e) _ = None

-- ---- objects by their tables

abbrev pub has_key : List Key → List ℕ → Bool
has_key [] key = false
has_key (required k faults ∷ keys) key = bytes_eq k key || has_key keys key
has_key (optional k faults ∷ keys) key = bytes_eq k key || has_key keys key
has_key (spelled k l faults ∷ keys) key = bytes_eq k key || (bytes_eq l key || has_key keys key)

abbrev pub missing_at : Path → Data → Key → Option ConfigFault
missing_at path d (required k faults) = unless_found (get k d) (WrongType (at_key path k))
missing_at path d (optional k faults) = None
missing_at path d (spelled k l faults) = None

abbrev pub under_at : Path → Data → Key → Faults
under_at path d (required k faults) p = in_value faults (at_key path k) (get k d) p
under_at path d (optional k faults) p = in_value faults (at_key path k) (get k d) p
under_at path d (spelled k l faults) p = in_spelled faults (at_key path k) (at_key path l) (get k d) (get l d) p

-- of the key with a number
abbrev pub of_key : (Key → Option ConfigFault) → List Key → ℕ → Option ConfigFault
of_key fault [] i = None
of_key fault (key ∷ keys) zero = fault key
of_key fault (key ∷ keys) (suc i) = of_key fault keys i

-- an object with a table of keys
abbrev pub object_faults : List Key → Path → Data → Faults
object_faults keys path d itself = unless_found (as_object d) (WrongType path)
object_faults keys path d (unknown key) = if is_some (get key d) && not (has_key keys key) then Some (UnknownKey (at_key path key)) else None
object_faults keys path d (missing i) = of_key (missing_at path d) keys i
object_faults keys path d (under i p) = of_key (λ key. under_at path d key p) keys i
object_faults keys path d (named key p) = None

-- ---- texts and lists

abbrev pub text_fault : (List ℕ → Bool) → (Path → ConfigFault) → Path → Option (List ℕ) → Option ConfigFault
text_fault is_allowed fault path None = Some (WrongType path)
text_fault is_allowed fault path (Some text) = if is_allowed text then None else Some (fault path)

-- a text that may not be any
abbrev pub text_faults : (List ℕ → Bool) → (Path → ConfigFault) → Path → Data → Faults
text_faults is_allowed fault path d itself = text_fault is_allowed fault path (as_str d)
text_faults is_allowed fault path d _ = None

-- a list of values
abbrev pub list_faults : (Path → Data → Faults) → Path → Data → Faults
list_faults faults path d itself = unless_found (as_array d) (WrongType path)
list_faults faults path d (under i p) = in_value faults (at_index path i) (at i d) p
list_faults faults path d _ = None

-- an object with a value under each of its names
abbrev pub members_faults : (List ℕ → Path → Data → Faults) → Path → Data → Faults
members_faults faults path d itself = unless_found (as_object d) (WrongType path)
members_faults faults path d (named name p) = in_value (faults name) (at_key path name) (get name d) p
members_faults faults path d _ = None
