-- Where in a policy's text an entry stands of the permissions that hold for a user (docs/POLICY.md, "Objects").
use Rattle.std.specs.Prelude.{ℕ, Bool, List, [], Option, Some, None, codes, is_some, if◌then◌else◌}
use Rattle.std.specs.Option.{option_map}
use Rattle.serde_json.specs.Data.{Data}
use Rattle.serde_json.specs.Find.{pointer}
use Rattle.permissions.specs.declared.verdict.By.TheVariants.{All, Index, Grant}
use Rattle.permissions.specs.declared.verdict.Verdict.{Verdict}
use Rattle.permissions.specs.declared.verdict.Verdict.TheVariants.{Allowed, DeniedBy, NoAllow, NoQueueAllow}
use Rattle.policy_permissions.specs.declared.entry.Side.{Side}
use Rattle.policy_permissions.specs.declared.entry.Side.TheVariants.{Publish, Subscribe}
use Rattle.policy_walk.specs.Path.{Path, at_key, at_index}
use Rattle.policy_notes.specs.declared.paths.entry.EntryList.{EntryList}
use Rattle.policy_notes.specs.declared.paths.entry.EntryList.TheVariants.{Allow, Deny}
use Rattle.policy_notes.specs.declared.paths.entry.NamedEntry.{NamedEntry}

-- the entry that a verdict names: its list, and its index there
abbrev pub entry_in : EntryList → ℕ → Option NamedEntry
entry_in list i = Some (record { list = list; index = i })

abbrev pub entry_named : Verdict → Option NamedEntry
entry_named (Allowed All) = None
entry_named (Allowed (Index i)) = entry_in Allow i
entry_named (Allowed Grant) = None
entry_named (DeniedBy i) = entry_in Deny i
entry_named NoAllow = None
entry_named (NoQueueAllow i) = entry_in Allow i

-- whether something stands under a path
abbrev pub is_there : Data → Path → Bool
is_there d path = is_some (pointer path d)

-- a path, if something stands there, or else another
abbrev pub either : Data → Path → Path → Path
either d path other = if is_there d path then path else other

-- a user's permissions, or the default ones where it has none of its own
abbrev pub permissions_path : Data → Path → Path
permissions_path d user = either d (at_key user (codes "permissions")) (at_key [] (codes "default_permissions"))

-- a direction has two spellings of its key
abbrev pub spelled : Data → Path → List ℕ → List ℕ → Path
spelled d permissions long short = either d (at_key permissions long) (at_key permissions short)

abbrev pub direction_path : Data → Path → Side → Path
direction_path d permissions Publish = spelled d permissions (codes "publish") (codes "pub")
direction_path d permissions Subscribe = spelled d permissions (codes "subscribe") (codes "sub")

-- a list stands under its key, or is the direction itself; its one entry may be the list itself
abbrev pub list_key : EntryList → List ℕ
list_key Allow = codes "allow"
list_key Deny = codes "deny"

abbrev pub list_path : Data → Path → EntryList → Path
list_path d direction list = either d (at_key direction (list_key list)) direction

abbrev pub item_path : Data → Path → ℕ → Path
item_path d list i = either d (at_index list i) list

abbrev pub named_path : Data → Path → NamedEntry → Path
named_path d direction entry = item_path d (list_path d direction entry.list) entry.index

-- the entry that a verdict names, of the lists that hold for a user
abbrev pub entry_path : Data → Path → Side → Verdict → Option Path
entry_path d user side verdict = option_map (named_path d (direction_path d (permissions_path d user) side)) (entry_named verdict)
