-- The faults so far, with those of a value behind them (docs/POLICY.md, "Every fault"): of an object by its table, of a list, and of
-- what stands under a key.
use Rattle.std.specs.Prelude.{◌&&◌, ◌∷◌, ℕ, suc, List, [], not, if◌then◌else◌, Option, Some, None, is_some}
use Rattle.serde_json.specs.Data.{Data, Items, no_items, item, Members, no_members, member}
use Rattle.serde_json.specs.Find.{get, as_array, as_object}
use Rattle.policy_walk.specs.declared.fault.ConfigFault.TheVariants.{UnknownKey, WrongType}
use Rattle.policy_walk.specs.Object.{Row, is_known}
use Rattle.policy_walk.specs.Path.{Path, at_key, at_index}
use Rattle.policy_faults.specs.declared.finding.Finding.{Finding}
use Rattle.policy_faults.specs.declared.finding.Wanted.{Wanted}
use Rattle.policy_faults.specs.declared.finding.Wanted.TheVariants.{KnownKey, Key}
use Rattle.policy_faults.specs.Findings.{with_fault}

-- what a check of a value at a path adds to the faults so far
abbrev pub Finds : Type 0
Finds = Path → Data → List Finding → List Finding

-- ---- objects

-- a key that the table hasn't
abbrev pub with_unknown_key : List Row → Path → List ℕ → List Finding → List Finding
with_unknown_key rows path key front = if is_known rows key then front else with_fault (UnknownKey (at_key path key)) KnownKey front

unfoldable pub with_unknown : List Row → Path → Members → List Finding → List Finding
with_unknown rows path no_members front = front
with_unknown rows path (member key d ms) front =
    with_unknown rows path ms (with_unknown_key rows path key front)

-- a key of the table that must be there and isn't
abbrev pub with_missing_key : Row → Path → Data → List Finding → List Finding
with_missing_key row path d front = if row.1 && not (is_some (get row.0 d)) then with_fault (WrongType (at_key path row.0)) Key front else front

unfoldable pub with_missing : List Row → Path → Data → List Finding → List Finding
with_missing [] path d front = front
with_missing (row ∷ rows) path d front =
    with_missing rows path d (with_missing_key row path d front)

abbrev pub with_members : List Row → Wanted → Path → Data → Option Members → List Finding → List Finding
with_members rows wanted path d None front = with_fault (WrongType path) wanted front
with_members rows wanted path d (Some members) front = with_missing rows path d (with_unknown rows path members front)

-- a value that has to be an object of a table, but for what stands under its keys
abbrev pub with_object : List Row → Wanted → Finds
with_object rows wanted path d front = with_members rows wanted path d (as_object d) front

-- ---- what stands under a key, and in a list

abbrev pub with_found : Finds → Path → Option Data → List Finding → List Finding
with_found finds path None front = front
with_found finds path (Some d) front = finds path d front

abbrev pub with_under : Finds → List ℕ → Finds
with_under finds key path d front = with_found finds (at_key path key) (get key d) front

unfoldable pub with_each : Finds → Path → ℕ → Items → List Finding → List Finding
with_each finds path i no_items front = front
with_each finds path i (item d ds) front = with_each finds path (suc i) ds (finds (at_index path i) d front)

abbrev pub with_items : Finds → Wanted → Path → Option Items → List Finding → List Finding
with_items finds wanted path None front = with_fault (WrongType path) wanted front
with_items finds wanted path (Some ds) front = with_each finds path 0 ds front

abbrev pub with_list : Finds → Wanted → Finds
with_list finds wanted path d front = with_items finds wanted path (as_array d) front
