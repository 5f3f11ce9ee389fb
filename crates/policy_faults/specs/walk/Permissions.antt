-- The faults of a user's permissions (docs/POLICY.md, "Permissions").
use Rattle.std.specs.Prelude.{◌&&◌, ℕ, List, codes, if◌then◌else◌, is_some}
use Rattle.serde_json.specs.Data.{Data}
use Rattle.serde_json.specs.Find.{as_bool, as_object, as_str, get}
use Rattle.policy_walk.specs.declared.fault.ConfigFault.TheVariants.{WrongType}
use Rattle.policy_walk.specs.Path.{Path, at_key}
use Rattle.policy_permissions.specs.Permissions.{direction_rows, permission_rows, terms_rows}
use Rattle.policy_faults.specs.declared.finding.Finding.{Finding}
use Rattle.policy_faults.specs.declared.finding.Wanted.TheVariants as wanted
use Rattle.policy_faults.specs.declared.walk.texts.TextKind.{TextKind}
use Rattle.policy_faults.specs.declared.walk.texts.TextKind.TheVariants.{PublishEntry, SubscribeEntry, Duration}
use Rattle.policy_faults.specs.Findings.{with_fault}
use Rattle.policy_faults.specs.walk.Walk.{Finds, with_list, with_object, with_under}
use Rattle.policy_faults.specs.walk.Texts.{with_max, with_text}

-- one entry, or a list of them
abbrev pub with_entries : TextKind → Finds
with_entries entry path d front = if is_some (as_str d) then with_text entry path d front else with_list (with_text entry) wanted.Entries path d front

-- an object with an allow and a deny list, or entries to be allowed
abbrev pub with_lists : TextKind → Finds
with_lists entry path d front =
    with_under (with_entries entry) (codes "deny") path d
    (with_under (with_entries entry) (codes "allow") path d (with_object direction_rows wanted.Direction path d front))

abbrev pub with_direction : TextKind → Finds
with_direction entry path d front = if is_some (as_object d) then with_lists entry path d front else with_entries entry path d front

-- one of two spellings
abbrev pub with_spelled : TextKind → List ℕ → List ℕ → Finds
with_spelled entry long short path d front =
    if is_some (get long d) && is_some (get short d) then with_fault (WrongType (at_key path short)) wanted.Spelling front
    else with_under (with_direction entry) short path d (with_under (with_direction entry) long path d front)

-- true, false or an object
abbrev pub with_terms : Finds
with_terms path d front =
    with_under (with_text Duration) (codes "expires") path d
    (with_under with_max (codes "max") path d (with_object terms_rows wanted.Responses path d front))

abbrev pub with_responses : Finds
with_responses path d front = if is_some (as_bool d) then front else with_terms path d front

abbrev pub with_permissions : Finds
with_permissions path d front =
    with_under with_responses (codes "allow_responses") path d
    (with_spelled SubscribeEntry (codes "subscribe") (codes "sub") path d
    (with_spelled PublishEntry (codes "publish") (codes "pub") path d (with_object permission_rows wanted.Object path d front)))
