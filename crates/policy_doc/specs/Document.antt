-- When a document is valid, and the built-in one (docs/POLICY.md, "Users" and "The built-in policy").
use Rattle.std.specs.Prelude.{◌∷◌, ◌++◌, ◌+◌, ℕ, Bool, List, [], map, take, Option, Some, None, codes, length, slice_get, if◌then◌else◌, IsSomeAnd, IsTrue}
use Rattle.std.specs.List.{flat_map, list_any, IsDistinct}
use Rattle.std.specs.Option.{option_map, option_map_or, option_or}
use Rattle.std.specs.Str.{bytes_eq}
use Rattle.policy_doc.specs.Accounts.{Name}
use Rattle.policy_doc.specs.Imports.{AreValidImports, fault_in_imports}
use Rattle.policy_doc.specs.declared.fault.Place.{Place}
use Rattle.policy_doc.specs.declared.fault.PolicyFault.{PolicyFault}
use Rattle.policy_doc.specs.declared.fault.PolicyFault.TheVariants.{DuplicateUser, NoMemory}
use Rattle.policy_doc.specs.declared.document.PolicyDoc.{PolicyDoc}
use Rattle.policy_doc.specs.declared.document.NamedAccount.{NamedAccount}
use Rattle.policy_doc.specs.declared.document.UserDoc.{UserDoc}
use Rattle.policy_doc.specs.declared.document.ImportDoc.{ImportDoc}
use Rattle.policy_doc.specs.declared.document.Version.TheVariants.{One}
use Rattle.account_mappings.specs.Drawing.{SourceMap}
use Rattle.policy_doc.specs.declared.document.Counts.{Counts}
use Rattle.policy_doc.specs.declared.exports.document.ExportDoc.{ExportDoc}
use Rattle.policy_doc.specs.declared.permission_doc.document.Direction.{Direction}
use Rattle.policy_doc.specs.permission_doc.Entries.{entry_of}

-- the users of accounts, account by account
abbrev pub users_of : List NamedAccount → List UserDoc
users_of accounts = flat_map (λ (a : NamedAccount). a.account.users) accounts

-- the exports of accounts, account by account, their imports, and the sources of their mappings
abbrev pub exports_of : List NamedAccount → List ExportDoc
exports_of accounts = flat_map (λ (a : NamedAccount). a.account.exports) accounts

abbrev pub imports_of : List NamedAccount → List ImportDoc
imports_of accounts = flat_map (λ (a : NamedAccount). a.account.imports) accounts

abbrev pub mappings_of : List NamedAccount → List SourceMap
mappings_of accounts = flat_map (λ (a : NamedAccount). a.account.mappings) accounts

abbrev pub counts_of : List NamedAccount → Counts
counts_of accounts = record { users = length (users_of accounts); exports = length (exports_of accounts); imports = length (imports_of accounts); mappings = length (mappings_of accounts) }

abbrev pub user_name : UserDoc → Name
user_name u = u.user

abbrev pub HaveUniqueNames : List UserDoc → Type 0
HaveUniqueNames users = IsDistinct bytes_eq (map user_name users)

-- user names are unique over all accounts, and each import row holds
pub record IsValidPolicy (doc : PolicyDoc) : Type 0 where
  pub names : HaveUniqueNames (users_of doc.accounts)
  pub imports : AreValidImports doc.accounts doc.accounts

-- whether a user of the name is among users
abbrev pub is_taken : Name → List UserDoc → Bool
is_taken name users = list_any (λ (u : UserDoc). bytes_eq name u.user) users

-- the users of the account at an index
abbrev pub users_at : List NamedAccount → ℕ → List UserDoc
users_at accounts i = option_map_or (λ (a : NamedAccount). a.account.users) (slice_get accounts i) []

-- A user stands in this row, behind users with unique names of which one has its name.
abbrev pub IsTwinRow : List UserDoc → List UserDoc → ℕ → Type 0
IsTwinRow earlier users row =
    HaveUniqueNames (earlier ++ take row users) × IsSomeAnd (slice_get users row) (λ user. IsTrue (is_taken user.user (earlier ++ take row users)))

-- the first user, by account and row, whose name stands before it
abbrev pub IsFirstTwin : List NamedAccount → Place → Type 0
IsFirstTwin accounts place =
    IsTwinRow (users_of (take place.account accounts)) (users_at accounts place.account) place.row

-- the same as a search: the row of the first of users whose name is among earlier ones
abbrev pub twin_row : List UserDoc → ℕ → List UserDoc → Option ℕ
twin_row earlier row [] = None
twin_row earlier row (u ∷ us) = if is_taken u.user earlier then Some row else twin_row (earlier ++ u ∷ []) (row + 1) us

abbrev pub twin_or : ℕ → Option ℕ → Option Place → Option Place
twin_or account (Some row) later = Some record { account = account; row = row }
twin_or account None later = later

-- the first such user of accounts, by account and row
abbrev pub twin_place : List UserDoc → ℕ → List NamedAccount → Option Place
twin_place earlier account [] = None
twin_place earlier account (a ∷ more) =
    twin_or account (twin_row earlier 0 a.account.users) (twin_place (earlier ++ a.account.users) (account + 1) more)

-- the first fault of a document, if it has one: of its users, or else of its import rows
abbrev pub policy_fault : PolicyDoc → Option PolicyFault
policy_fault doc = option_or (option_map DuplicateUser (twin_place [] 0 doc.accounts)) (fault_in_imports doc.accounts 0 doc.accounts)

-- A duplicate user is the first in the document. Import rows are judged where names are unique. Memory is wanted of a valid
-- document alone.
abbrev pub IsPolicyFault : PolicyDoc → PolicyFault → Type 0
IsPolicyFault doc (DuplicateUser place) = IsFirstTwin doc.accounts place
IsPolicyFault doc NoMemory = IsValidPolicy doc
IsPolicyFault doc _ = HaveUniqueNames (users_of doc.accounts)

-- all below foo but foo.bar
abbrev pub limited_direction : Direction
limited_direction = record {
  allow = Some (entry_of (codes "foo" ∷ codes ">" ∷ []) ∷ []);
  deny = entry_of (codes "foo" ∷ codes "bar" ∷ []) ∷ [];
}

-- a user that may do everything in its account
abbrev pub demo_user : UserDoc
demo_user = record { user = codes "demo"; password = codes "demo"; permissions = None }

-- a user that publishes and subscribes below foo alone, and not on foo.bar
abbrev pub limited_user : UserDoc
limited_user = record {
  user = codes "limited";
  password = codes "limited";
  permissions = Some record { publish = limited_direction; subscribe = limited_direction; allow_responses = None };
}

abbrev pub builtin_account : NamedAccount
builtin_account = record {
  name = codes "DEMO";
  account = record { users = demo_user ∷ limited_user ∷ []; exports = []; imports = []; mappings = [] };
}

-- the policy that holds where none is given: one account with a free user and a limited one
abbrev pub builtin_doc : PolicyDoc
builtin_doc = record { accounts = builtin_account ∷ []; version = One; default_permissions = None }

-- the name of the account at an index
abbrev pub name_at : List NamedAccount → ℕ → Name
name_at accounts i = option_map_or (λ (a : NamedAccount). a.name) (slice_get accounts i) []
