-- The mappings of an account that a JSON value writes, or its first fault (docs/GUARANTEE.md, "Mappings").
-- A null counts as a value of another kind, and not as absent.
use Rattle.std.specs.Prelude.{◌∷◌, ℕ, true, false, List, [], codes, if◌then◌else◌, Option, Some, None, Ok, Err, is_some, option_and_then}
use Rattle.std.specs.Option.{ok_or}
use Rattle.serde_json.specs.Data.{Data, Num, Items, Members, no_members, member}
use Rattle.serde_json.specs.Find.{get, as_array, as_number, as_str, as_u64}
use Rattle.subjects.specs.Subject.{Token}
use Rattle.mapping.specs.one_way.Fault.{one_way_fault}
use Rattle.account_mappings.specs.weights.Weights.{weight_of, weight_written}
use Rattle.account_mappings.specs.Drawing.{Share, SourceMap, map_if, map_of, share_of}
use Rattle.policy_walk.specs.declared.fault.ConfigFault.TheVariants.{WrongType, BadDestination, BadWeight}
use Rattle.policy_walk.specs.Fault.{Read, ◌>>=◌}
use Rattle.policy_walk.specs.Path.{Path, at_key}
use Rattle.policy_walk.specs.Object.{Row, judged, members_at}
use Rattle.policy_walk.specs.Texts.{required_text_at}
use Rattle.policy_walk.specs.Lists.{each}
use Rattle.policy_permissions.specs.Permissions.{pattern_from}

-- ---- the table: a key of a destination's object, and whether it must be there

abbrev pub destination_rows : List Row
destination_rows = (codes "destination", true) ∷ (codes "weight", false) ∷ []

-- ---- weights

-- a text is a weight with `%`, and a number is one that is whole; anything else is of another kind
abbrev pub weight_from : Path → Option (List ℕ) → Option Num → Read ℕ
weight_from path (Some text) n = ok_or (weight_written text) (BadWeight path)
weight_from path None (Some n) = ok_or (option_and_then weight_of (as_u64 n)) (BadWeight path)
weight_from path None None = Err (WrongType path)

abbrev pub weight_at : Path → Data → Read ℕ
weight_at path d = weight_from path (as_str d) (as_number d)

-- without a weight that is given, all messages go there
abbrev pub weight_under : Path → Option Data → Read ℕ
weight_under path None = Ok 100
weight_under path (Some d) = weight_at path d

-- ---- destinations

-- a template for the subjects of a source
abbrev pub template_from : List Token → Path → List ℕ → Read (List ℕ)
template_from source path text = if is_some (one_way_fault source text) then Err (BadDestination path) else Ok text

unfoldable pub template_at : List Token → Path → Data → Read (List ℕ)
template_at source path d = do
  text ← required_text_at (codes "destination") path d
  template_from source (at_key path (codes "destination")) text

-- a destination that is an object
unfoldable pub share_at : List Token → Path → Data → Read Share
share_at source path d = do
  known ← judged destination_rows path d
  text ← template_at source path d
  weight ← weight_under (at_key path (codes "weight")) (get (codes "weight") d)
  Ok (share_of source text weight)

-- a text is the one destination, of all messages
unfoldable pub text_shares : List Token → Path → List ℕ → Read (List Share)
text_shares source path text = do
  template ← template_from source path text
  Ok (share_of source template 100 ∷ [])

-- an object is the one destination
unfoldable pub object_shares : List Token → Path → Data → Read (List Share)
object_shares source path d = do
  share ← share_at source path d
  Ok (share ∷ [])

-- a text, a list of objects, or an object
abbrev pub shares_by : List Token → Path → Data → Option (List ℕ) → Option Items → Read (List Share)
shares_by source path d (Some text) items = text_shares source path text
shares_by source path d None (Some items) = each (share_at source) path 0 items
shares_by source path d None None = object_shares source path d

abbrev pub shares_at : List Token → Path → Data → Read (List Share)
shares_at source path d = shares_by source path d (as_str d) (as_array d)

-- ---- sources

-- weights that add up to more than a hundred are a fault of their source
abbrev pub map_from : Path → SourceMap → Read SourceMap
map_from path m = ok_or (map_if m) (BadWeight path)

-- a source is judged before its destinations, and these before what their weights add up to
unfoldable pub map_at : Path → List ℕ → Data → Read SourceMap
map_at path key d = do
  source ← pattern_from path key
  shares ← shares_at source path d
  map_from path (map_of source shares)

-- each source of an object; its members stand in the order of their keys' bytes
abbrev pub maps_from : Path → Members → Read (List SourceMap)
maps_from path no_members = Ok []
maps_from path (member key d ms) = do
  first ← map_at (at_key path key) key d
  others ← maps_from path ms
  Ok (first ∷ others)

unfoldable pub mappings_at : Path → Data → Read (List SourceMap)
mappings_at path d = do
  members ← members_at path d
  maps_from path members

-- absent mappings are none
abbrev pub mappings_under : Path → Option Data → Read (List SourceMap)
mappings_under path None = Ok []
mappings_under path (Some d) = mappings_at path d
