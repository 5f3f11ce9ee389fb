-- What a set of accounts has of a policy and of the response routes (docs/GUARANTEE.md, "Tenants").
use Rattle.std.specs.Prelude.{Bool, List, Option, None, filter, map}
use Rattle.std.specs.Option.{option_or}
use Rattle.policy_doc.specs.declared.permission_doc.document.PermDoc.{PermDoc}
use Rattle.policy_doc.specs.Accounts.{Name}
use Rattle.policy_doc.specs.declared.document.NamedAccount.{NamedAccount}
use Rattle.policy_doc.specs.declared.document.PolicyDoc.{PolicyDoc}
use Rattle.policy_doc.specs.declared.document.UserDoc.{UserDoc}
use Rattle.policy_doc.specs.declared.document.Version.TheVariants.{Two}
use Rattle.service_exporter.specs.Routes.{Exporter}

-- a user with the permissions that hold for it: its own, or else the default ones
abbrev pub user_held : Option PermDoc → UserDoc → UserDoc
user_held default u = record u { permissions = option_or u.permissions default }

abbrev pub account_held : Option PermDoc → NamedAccount → NamedAccount
account_held default a = record a { account = record a.account { users = map (user_held default) a.account.users } }

-- what applies to the accounts of the set: their users with the permissions that hold, their exports, imports and
-- mappings
abbrev pub accounts_of : (Name → Bool) → PolicyDoc → List NamedAccount
accounts_of K doc = map (account_held doc.default_permissions) (filter (λ (a : NamedAccount). K a.name) doc.accounts)

-- The set's part of a policy: what applies to its accounts, as a policy of the version that has all of this. So the part
-- has no default permissions, and is the same for whoever gives the set's accounts the same, however it is written.
abbrev pub part_of : (Name → Bool) → PolicyDoc → PolicyDoc
part_of K doc = record { accounts = accounts_of K doc; version = Two; default_permissions = None }

-- the exporters of the set, with their routes and last numbers
abbrev pub exporters_of : (Name → Bool) → List (Name × Exporter) → List (Name × Exporter)
exporters_of K all = filter (λ (e : Name × Exporter). K e.0) all
