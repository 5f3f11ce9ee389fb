-- Every fault of a document (docs/POLICY.md, "Every fault").
use Rattle.std.specs.Prelude.{List, [], codes}
use Rattle.serde_json.specs.Data.{Data}
use Rattle.policy_doc.specs.declared.document.Version.{Version}
use Rattle.policy_doc.specs.declared.document.Version.TheVariants.{One, Two}
use Rattle.policy_text.specs.account_config.Policy.{top_rows, version_in}
use Rattle.policy_faults.specs.declared.finding.Finding.{Finding}
use Rattle.policy_faults.specs.declared.finding.Wanted.TheVariants as wanted
use Rattle.policy_faults.specs.walk.Walk.{Finds, with_object, with_under}
use Rattle.policy_faults.specs.walk.Texts.{with_version}
use Rattle.policy_faults.specs.walk.Permissions.{with_permissions}
use Rattle.policy_faults.specs.walk.Accounts.{with_accounts}

abbrev pub with_table : Version → Finds
with_table version path d front = with_object (top_rows version) wanted.Object path d front

-- the second version alone has default permissions
abbrev pub with_defaults : Version → Finds
with_defaults One path d front = front
with_defaults Two path d front = with_under with_permissions (codes "default_permissions") path d front

-- the faults of a document's JSON value, in the order in which the first is looked for
abbrev pub faults_in : Data → List Finding
faults_in d =
    with_defaults (version_in d) [] d
    (with_under with_version (codes "version") [] d
    (with_under (with_accounts (version_in d)) (codes "accounts") [] d (with_table (version_in d) [] d [])))
