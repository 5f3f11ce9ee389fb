-- What an operator is told of a policy's text (docs/POLICY.md, "Where a fault stands").
use Rattle.std.specs.Prelude.{◌≡◌, ◌++◌, ℕ, List, [], Option, None, Some, codes, map, take, string_bytes, if◌then◌else◌}
use Rattle.std.specs.List.{starts_with}
use Rattle.std.specs.Option.{option_and_then, option_map}
use Rattle.std.specs.Str.{IsUtf8}
use Rattle.std.specs.Prelude.{drop, nat_eq}
use Rattle.json.specs.Print.{quoted}
use Rattle.policy_walk.specs.declared.fault.ConfigFault.TheVariants.{TooLarge, NotJson}
use Rattle.policy_text.specs.declared.reload.fault.ReloadFault.{ReloadFault}
use Rattle.policy_text.specs.declared.reload.fault.ReloadFault.TheVariants.{Config}
use Rattle.policy_notes.specs.positions.Place.{place_words}
use Rattle.policy_notes.specs.positions.Repeats.{repeats_of, Repeated}
use Rattle.policy_notes.specs.positions.Spots.{AreSpots}
use Rattle.policy_notes.specs.declared.positions.spots.Spot.{Spot}
use Rattle.policy_notes.specs.Places.{place_of, told_fault}
use Rattle.policy_notes.specs.declared.notes.Notes.{Notes}

-- a key that stands in one object again: the key as JSON writes it, and both places
abbrev pub key_of : List ℕ → List ℕ
key_of name = if starts_with nat_eq name (codes "/") then drop 1 name else name

abbrev pub warning : List ℕ → Repeated → List ℕ
warning text r =
    codes "the key " ++ quoted (key_of r.name) ++ codes " stands twice in one object, at " ++ place_words (place_of text r.first) ++ codes " and at "
    ++ place_words (place_of text r.again) ++ codes ": the last counts"

-- one for each of the first 100 keys that do
abbrev pub warnings_of : List ℕ → List Spot → List (List ℕ)
warnings_of text spots = map (warning text) (take 100 (repeats_of spots))

-- where the fault stands, if there is one, and which keys stand twice
pub record IsNotesOfJson (text : List ℕ) (fault : Option ReloadFault) (notes : Notes) : Type 0 where
  pub spots : List Spot
  pub are_spots : AreSpots text spots
  pub warnings : map string_bytes notes.warnings.items ≡ warnings_of text spots
  pub place : option_map string_bytes notes.place ≡ option_and_then (told_fault text spots) fault

abbrev pub IsNone : Notes → Type 0
IsNone notes = (notes.place ≡ None) × (notes.warnings.items ≡ [])

-- of a text that is too large nothing is told, and of one that is no JSON no keys
abbrev pub AreNotes : List ℕ → Option ReloadFault → Notes → Type 0
AreNotes text (Some (Config TooLarge)) notes = IsNone notes
AreNotes text (Some (Config NotJson)) notes = notes.warnings.items ≡ []
AreNotes text fault notes = IsUtf8 text → IsNotesOfJson text fault notes
