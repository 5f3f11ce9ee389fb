-- The faults of an account's mappings (docs/POLICY.md, "Mappings").
use Rattle.std.specs.Prelude.{◌-◌, ◌||◌, ℕ, Bool, true, false, List, codes, if◌then◌else◌, nat_lt, Option, Some, None, is_some}
use Rattle.std.specs.Option.{unwrap_or}
use Rattle.serde_json.specs.Data.{Data, Items, no_items, item, Members, no_members, member}
use Rattle.serde_json.specs.Find.{as_array, as_number, as_object, as_str, get}
use Rattle.subjects.specs.Fault.{pattern_if}
use Rattle.subjects.specs.Subject.{Token}
use Rattle.policy_walk.specs.declared.fault.ConfigFault.TheVariants.{WrongType, BadDestination, BadWeight}
use Rattle.policy_walk.specs.Path.{Path, at_key}
use Rattle.policy_text.specs.account_config.Mapped.{is_template, weight_at}
use Rattle.policy_text.specs.mappings.Mappings.{destination_rows}
use Rattle.policy_faults.specs.declared.finding.Finding.{Finding}
use Rattle.policy_faults.specs.declared.finding.Wanted.TheVariants as wanted
use Rattle.policy_faults.specs.declared.walk.texts.TextKind.TheVariants.{Pattern}
use Rattle.policy_faults.specs.Findings.{with_fault}
use Rattle.policy_faults.specs.walk.Walk.{Finds, with_each, with_object, with_under}
use Rattle.policy_faults.specs.walk.Texts.{with_named}

-- a number or a text that is no weight, or a value of another kind
abbrev pub with_weight : Finds
with_weight path d front =
    if is_some (weight_at d) then front
    else if is_some (as_str d) || is_some (as_number d) then with_fault (BadWeight path) wanted.Weight front
    else with_fault (WrongType path) wanted.Weight front

abbrev pub with_template_if : List Token → Path → Option (List ℕ) → List Finding → List Finding
with_template_if source path None front = with_fault (WrongType path) wanted.Template front
with_template_if source path (Some text) front = if is_template source text then front else with_fault (BadDestination path) wanted.Template front

abbrev pub with_template : List Token → Finds
with_template source path d front = with_template_if source path (as_str d) front

abbrev pub with_destination : List Token → Finds
with_destination source path d front =
    with_under with_weight (codes "weight") path d
    (with_under (with_template source) (codes "destination") path d (with_object destination_rows wanted.Destinations path d front))

-- an object, or a list of them
abbrev pub with_shares : List Token → Path → Data → Option Items → List Finding → List Finding
with_shares source path d None front = with_destination source path d front
with_shares source path d (Some ds) front = with_each (with_destination source) path 0 ds front

-- a template, an object, or a list of objects
abbrev pub with_destinations : List Token → Finds
with_destinations source path d front =
    if is_some (as_str d) then with_template source path d front else with_shares source path d (as_array d) front

-- the weight of a destination, 100 without one, and 0 of what is none
abbrev pub weight_of_found : Option Data → ℕ
weight_of_found None = 100
weight_of_found (Some d) = unwrap_or (weight_at d) 0

abbrev pub weight_or_whole : Data → ℕ
weight_or_whole d = weight_of_found (get (codes "weight") d)

-- whether they add up to more than what is left
unfoldable pub exceed : ℕ → Items → Bool
exceed left no_items = false
exceed left (item d ds) = if nat_lt left (weight_or_whole d) then true else exceed (left - weight_or_whole d) ds

abbrev pub with_sum_of : Path → Option Items → List Finding → List Finding
with_sum_of path None front = front
with_sum_of path (Some ds) front = if exceed 100 ds then with_fault (BadWeight path) wanted.Sum front else front

abbrev pub with_sum : Finds
with_sum path d front = with_sum_of path (as_array d) front

-- what is no pattern has no destinations
abbrev pub with_source_of : List ℕ → Path → Data → Option (List Token) → List Finding → List Finding
with_source_of key path d None front = with_named Pattern path key front
with_source_of key path d (Some source) front = with_sum path d (with_destinations source path d front)

abbrev pub with_source : List ℕ → Finds
with_source key path d front = with_source_of key path d (pattern_if key) front

unfoldable pub with_sources : Path → Members → List Finding → List Finding
with_sources path no_members front = front
with_sources path (member key d ms) front = with_sources path ms (with_source key (at_key path key) d front)

abbrev pub with_sources_if : Path → Option Members → List Finding → List Finding
with_sources_if path None front = with_fault (WrongType path) wanted.Object front
with_sources_if path (Some ms) front = with_sources path ms front

abbrev pub with_mappings : Finds
with_mappings path d front = with_sources_if path (as_object d) front
