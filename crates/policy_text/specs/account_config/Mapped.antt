-- The mappings of an account: what a JSON value without a fault writes, and which faults stand where (docs/POLICY.md,
-- "Mappings"). Nothing here says which comes first.
use Rattle.std.specs.Prelude.{◌∷◌, ◌||◌, ℕ, zero, suc, Bool, not, List, [], codes, if◌then◌else◌, nat_lt, Option, Some, None, is_some, option_and_then}
use Rattle.std.specs.List.{sum_by}
use Rattle.std.specs.Option.{unwrap_or}
use Rattle.serde_json.specs.Data.{Data, Num, Members, no_members, member}
use Rattle.serde_json.specs.Find.{get, as_array, as_number, as_object, as_str, as_u64}
use Rattle.subjects.specs.Subject.{Token, tokens_of}
use Rattle.mapping.specs.one_way.Fault.{one_way_fault}
use Rattle.account_mappings.specs.weights.Weights.{weight_of, weight_written}
use Rattle.account_mappings.specs.Drawing.{Share, SourceMap, map_of, share_of, weight_of as share_weight}
use Rattle.policy_walk.specs.declared.fault.ConfigFault.{ConfigFault}
use Rattle.policy_walk.specs.declared.fault.ConfigFault.TheVariants.{WrongType, BadSubject, BadDestination, BadWeight}
use Rattle.policy_walk.specs.Path.{Path}
use Rattle.policy_permissions.specs.Entry.{is_pattern_text}
use Rattle.policy_text.specs.account_config.Place.{itself, under, Faults}
use Rattle.policy_text.specs.account_config.Tables.{Key, required, optional, list_faults, members_faults, object_faults, text_faults}
use Rattle.policy_text.specs.account_config.Values.{text_in, list_in, value_under}

-- ---- what is written

-- a text is a weight with `%`, and a number is one that is whole
abbrev pub weight_by : Option (List ℕ) → Option Num → Option ℕ
weight_by (Some text) n = weight_written text
weight_by None n = option_and_then weight_of (option_and_then as_u64 n)

abbrev pub weight_at : Data → Option ℕ
weight_at d = weight_by (as_str d) (as_number d)

-- without a weight that is given, all messages go there
abbrev pub weight_in : Option Data → ℕ
weight_in None = 100
weight_in (Some d) = unwrap_or (weight_at d) 0

abbrev pub share_in : List Token → Data → Share
share_in source d = share_of source (text_in (value_under (codes "destination") d)) (weight_in (get (codes "weight") d))

-- a text is the one destination, of all messages; else there is a list of objects, or one
abbrev pub shares_in : List Token → Data → List Share
shares_in source d =
    if is_some (as_str d) then share_of source (text_in d) 100 ∷ []
    else if is_some (as_array d) then list_in (share_in source) d else share_in source d ∷ []

abbrev pub map_in : List ℕ → Data → SourceMap
map_in key d = map_of (tokens_of key) (shares_in (tokens_of key) d)

abbrev pub maps_in : Members → List SourceMap
maps_in no_members = []
maps_in (member key d ms) = map_in key d ∷ maps_in ms

abbrev pub mappings_in : Data → List SourceMap
mappings_in d = maps_in (unwrap_or (as_object d) no_members)

-- ---- faults

-- a number or a text that is no weight, or a value of another kind
abbrev pub weight_fault : Path → Data → Option ConfigFault
weight_fault path d =
    if is_some (weight_at d) then None else if is_some (as_str d) || is_some (as_number d) then Some (BadWeight path) else Some (WrongType path)

abbrev pub weight_faults : Path → Data → Faults
weight_faults path d itself = weight_fault path d
weight_faults path d _ = None

-- a template for the subjects of a source
abbrev pub is_template : List Token → List ℕ → Bool
is_template source text = not (is_some (one_way_fault source text))

abbrev pub template_faults : List Token → Path → Data → Faults
template_faults source = text_faults (is_template source) BadDestination

abbrev pub destination_keys : List Token → List Key
destination_keys source = required (codes "destination") (template_faults source) ∷ optional (codes "weight") weight_faults ∷ []

abbrev pub destinations_faults : List Token → Path → Data → Faults
destinations_faults source path d =
    if is_some (as_str d) then template_faults source path d
    else if is_some (as_array d) then list_faults (object_faults (destination_keys source)) path d
    else object_faults (destination_keys source) path d

-- weights that add up to more than a hundred are a fault of their source
abbrev pub total_fault : Path → List Share → Option ConfigFault
total_fault path shares = if nat_lt 100 (sum_by share_weight shares) then Some (BadWeight path) else None

-- the source is a pattern, then come its destinations, and then what their weights add up to
abbrev pub source_faults : List ℕ → Path → Data → Faults
source_faults key path d itself = if is_pattern_text key then None else Some (BadSubject path)
source_faults key path d (under zero p) = destinations_faults (tokens_of key) path d p
source_faults key path d (under (suc zero) itself) = total_fault path (shares_in (tokens_of key) d)
source_faults key path d _ = None

-- an object with destinations under each source
abbrev pub mappings_faults : Path → Data → Faults
mappings_faults = members_faults source_faults
