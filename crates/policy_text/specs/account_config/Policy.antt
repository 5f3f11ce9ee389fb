-- The policy that a text writes, or its first fault (docs/POLICY.md).
-- A null counts as a value of another kind, and not as absent.
use Rattle.std.specs.Prelude.{⊤, ◌==◌, ◌∷◌, ℕ, Bool, true, false, List, [], codes, length, take, if◌then◌else◌, Option, Some, None, Ok, Err, nat_lt, is_some, option_and_then}
use Rattle.std.specs.Option.{ok_or, unwrap_or}
use Rattle.std.specs.Str.{bytes_eq}
use Rattle.serde_json.specs.Data.{Data, Members, no_members, member}
use Rattle.serde_json.specs.Find.{get, as_number, as_u64}
use Rattle.json_text.specs.Json.{json_of}
use Rattle.policy_doc.specs.Accounts.{with_account}
use Rattle.policy_doc.specs.declared.document.PolicyDoc.{PolicyDoc}
use Rattle.policy_doc.specs.declared.document.Version.{Version}
use Rattle.policy_doc.specs.declared.document.Version.TheVariants.{One, Two}
use Rattle.policy_doc.specs.declared.document.NamedAccount.{NamedAccount}
use Rattle.policy_doc.specs.declared.document.AccountDoc.{AccountDoc}
use Rattle.policy_doc.specs.declared.document.UserDoc.{UserDoc}
use Rattle.policy_doc.specs.declared.permission_doc.document.PermDoc.{PermDoc}
use Rattle.policy_walk.specs.declared.fault.ConfigFault.TheVariants.{TooLarge, NotJson, WrongType, BadName, HashedPassword}
use Rattle.policy_walk.specs.Fault.{Read, ◌>>=◌}
use Rattle.policy_walk.specs.Path.{Path, at_key}
use Rattle.policy_walk.specs.Object.{Row, judged, members_at, required_at}
use Rattle.policy_walk.specs.Texts.{required_text_at}
use Rattle.policy_walk.specs.Lists.{list_under}
pub use Rattle.policy_permissions.specs.Permissions.{direction_at, direction_rows, duration_from, entries_under, entry_from, expires_under, is_bound, max_at, max_from, max_under, one_answer, or_empty, parts_from, pattern_from, permission_rows, permissions_under, queue_from, responses_at, responses_from, responses_under, spelled_at, spelled_from, terms_rows}
unfoldable pub use Rattle.policy_permissions.specs.Permissions.{allow_at, allow_responses_at, duration_at, entries_at, entry_at, lists_at, permissions_at, terms_at}
pub use Rattle.policy_text.specs.rows.Names.{account_name_from, has_name_length, is_account_name}
pub use Rattle.policy_text.specs.rows.Exports.{exports_under}
pub use Rattle.policy_text.specs.rows.Imports.{imports_under}
pub use Rattle.policy_text.specs.mappings.Mappings.{mappings_under}

-- ---- the tables: a key of each object, and whether it must be there

-- a key that the second version alone has
abbrev pub since_second : {X : Type 0} → Version → X → List X
since_second One key = []
since_second Two key = key ∷ []

abbrev pub top_rows : Version → List Row
top_rows version = (codes "accounts", true) ∷ (codes "version", false) ∷ since_second version (codes "default_permissions", false)

abbrev pub account_rows : Version → List Row
account_rows version = (codes "users", false) ∷ (codes "exports", false) ∷ (codes "imports", false) ∷ since_second version (codes "mappings", false)

abbrev pub user_rows : List Row
user_rows = (codes "user", true) ∷ (codes "password", true) ∷ (codes "permissions", false) ∷ []

-- ---- users

abbrev pub user_name_from : Path → List ℕ → Read (List ℕ)
user_name_from path name = if has_name_length name then Ok name else Err (BadName path)

-- a password is in clear; a hashed one begins with `$2`
abbrev pub is_hashed : List ℕ → Bool
is_hashed password = bytes_eq (take 2 password) (codes "$2")

abbrev pub password_from : Path → List ℕ → Read (List ℕ)
password_from path password = if is_hashed password then Err (HashedPassword path) else Ok password

unfoldable pub user_name_at : Path → Data → Read (List ℕ)
user_name_at path d = do
  name ← required_text_at (codes "user") path d
  user_name_from (at_key path (codes "user")) name

unfoldable pub password_at : Path → Data → Read (List ℕ)
password_at path d = do
  password ← required_text_at (codes "password") path d
  password_from (at_key path (codes "password")) password

unfoldable pub user_permissions_at : Path → Data → Read (Option PermDoc)
user_permissions_at path d = permissions_under (at_key path (codes "permissions")) (get (codes "permissions") d)

unfoldable pub user_at : Path → Data → Read UserDoc
user_at path d = do
  known ← judged user_rows path d
  user ← user_name_at path d
  password ← password_at path d
  permissions ← user_permissions_at path d
  Ok (record { user = user; password = password; permissions = permissions })

-- ---- accounts

unfoldable pub account_at : Version → Path → Data → Read AccountDoc
account_at version path d = do
  known ← judged (account_rows version) path d
  users ← list_under user_at (at_key path (codes "users")) (get (codes "users") d)
  exports ← exports_under (at_key path (codes "exports")) (get (codes "exports") d)
  imports ← imports_under (at_key path (codes "imports")) (get (codes "imports") d)
  mappings ← mappings_under (at_key path (codes "mappings")) (get (codes "mappings") d)
  Ok (record { users = users; exports = exports; imports = imports; mappings = mappings })

-- an account's name is judged before what the account has
unfoldable pub named_account_at : Version → Path → List ℕ → Data → Read NamedAccount
named_account_at version path key d = do
  name ← account_name_from (at_key path key) key
  account ← account_at version (at_key path key) d
  Ok (record { name = name; account = account })

-- the accounts under their names, beside those that were read before
abbrev pub accounts_from : Version → List NamedAccount → Path → Members → Read (List NamedAccount)
accounts_from version before path no_members = Ok before
accounts_from version before path (member key d ms) = do
  named ← named_account_at version path key d
  accounts_from version (with_account named.name named.account before) path ms

unfoldable pub accounts_at : Version → Path → Data → Read (List NamedAccount)
accounts_at version path d = do
  members ← members_at path d
  accounts_from version [] path members

-- ---- the whole

-- a version is the whole number 1 or 2
abbrev pub version_numbered : Option ℕ → Option Version
version_numbered None = None
version_numbered (Some n) = if n == 1 then Some One else if n == 2 then Some Two else None

abbrev pub version_of : Data → Option Version
version_of d = version_numbered (option_and_then as_u64 (as_number d))

-- the version whose keys a document has: the second where one is written, else the first
abbrev pub version_in : Data → Version
version_in d = unwrap_or (option_and_then version_of (get (codes "version") d)) One

abbrev pub version_under : Path → Option Data → Read ⊤
version_under path None = Ok tt
version_under path (Some d) = if is_some (version_of d) then Ok tt else Err (WrongType path)

unfoldable pub document_at : Path → Data → Read PolicyDoc
document_at path d = do
  known ← judged (top_rows (version_in d)) path d
  value ← required_at (codes "accounts") path d
  accounts ← accounts_at (version_in d) (at_key path (codes "accounts")) value
  allowed ← version_under (at_key path (codes "version")) (get (codes "version") d)
  default ← permissions_under (at_key path (codes "default_permissions")) (get (codes "default_permissions") d)
  Ok (record { accounts = accounts; version = version_in d; default_permissions = default })

abbrev pub json_at : List ℕ → Read Data
json_at text = ok_or (json_of text) NotJson

-- a policy has at most 1,048,576 bytes
abbrev pub json_from : List ℕ → Read Data
json_from text = if nat_lt 1048576 (length text) then Err TooLarge else json_at text

-- the document that a text writes, or its first fault
unfoldable pub policy_of : List ℕ → Read PolicyDoc
policy_of text = do
  d ← json_from text
  document_at [] d
