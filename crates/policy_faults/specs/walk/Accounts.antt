-- The faults of accounts and users (docs/POLICY.md, "Accounts and users").
use Rattle.std.specs.Prelude.{List, codes, Option, Some, None}
use Rattle.serde_json.specs.Data.{Data, Members, no_members, member}
use Rattle.serde_json.specs.Find.{as_object}
use Rattle.policy_doc.specs.declared.document.Version.{Version}
use Rattle.policy_doc.specs.declared.document.Version.TheVariants.{One, Two}
use Rattle.policy_walk.specs.declared.fault.ConfigFault.TheVariants.{WrongType}
use Rattle.policy_walk.specs.Path.{Path, at_key}
use Rattle.policy_text.specs.account_config.Policy.{account_rows, user_rows}
use Rattle.policy_faults.specs.declared.finding.Finding.{Finding}
use Rattle.policy_faults.specs.declared.finding.Wanted.TheVariants as wanted
use Rattle.policy_faults.specs.declared.walk.texts.TextKind.TheVariants.{AccountName, UserName, Password}
use Rattle.policy_faults.specs.Findings.{with_fault}
use Rattle.policy_faults.specs.walk.Walk.{Finds, with_list, with_object, with_under}
use Rattle.policy_faults.specs.walk.Texts.{with_named, with_text}
use Rattle.policy_faults.specs.walk.Permissions.{with_permissions}
use Rattle.policy_faults.specs.walk.Rows.{with_export, with_import}
use Rattle.policy_faults.specs.walk.Mappings.{with_mappings}

abbrev pub with_user : Finds
with_user path d front =
    with_under with_permissions (codes "permissions") path d
    (with_under (with_text Password) (codes "password") path d
    (with_under (with_text UserName) (codes "user") path d (with_object user_rows wanted.Object path d front)))

-- the second version alone has mappings
abbrev pub with_maps : Version → Finds
with_maps One path d front = front
with_maps Two path d front = with_under with_mappings (codes "mappings") path d front

abbrev pub with_account : Version → Finds
with_account version path d front =
    with_maps version path d
    (with_under (with_list with_import wanted.List) (codes "imports") path d
    (with_under (with_list with_export wanted.List) (codes "exports") path d
    (with_under (with_list with_user wanted.List) (codes "users") path d (with_object (account_rows version) wanted.Object path d front))))

-- an account's name, and then the account
unfoldable pub with_named_accounts : Version → Path → Members → List Finding → List Finding
with_named_accounts version path no_members front = front
with_named_accounts version path (member name d ms) front =
    with_named_accounts version path ms (with_account version (at_key path name) d (with_named AccountName (at_key path name) name front))

abbrev pub with_accounts_if : Version → Path → Option Members → List Finding → List Finding
with_accounts_if version path None front = with_fault (WrongType path) wanted.Object front
with_accounts_if version path (Some ms) front = with_named_accounts version path ms front

abbrev pub with_accounts : Version → Finds
with_accounts version path d front = with_accounts_if version path (as_object d) front
