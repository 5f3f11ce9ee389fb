-- The users of a policy (docs/POLICY.md, "Accounts and users").
use Rattle.std.specs.Prelude.{◌&&◌, Bool, List, ℕ, Option, Some, None, map, find, nat_eq}
use Rattle.std.specs.List.{flat_map}
use Rattle.std.specs.Cmp.Lexicographic.{pointwise}
use Rattle.policy_doc.specs.declared.document.PolicyDoc.{PolicyDoc}
use Rattle.policy_doc.specs.declared.document.NamedAccount.{NamedAccount}
use Rattle.policy_doc.specs.declared.document.UserDoc.{UserDoc}
use Rattle.policy_doc.specs.declared.permission_doc.document.PermDoc.{PermDoc}
use Rattle.account_mappings.specs.Drawing.{SourceMap}
use Rattle.permissions.specs.Lists.{lists_of}
use Rattle.policy_ready.specs.declared.ready.User.{User}

-- a user of an account, with its permissions or the default ones, and with the account's mappings
abbrev pub user_in : Option PermDoc → List ℕ → List SourceMap → UserDoc → User
user_in default account mappings u = record { account = account; user = u.user; password = u.password; rules = lists_of u default; mappings = mappings }

-- the users of an account, in order
abbrev pub users_in : Option PermDoc → NamedAccount → List User
users_in default a = map (user_in default a.name a.account.mappings) a.account.users

-- the users of a document, account by account
abbrev pub users_of : PolicyDoc → List User
users_of doc = flat_map (users_in doc.default_permissions) doc.accounts

-- the user with that name and password; no name is nobody's
abbrev pub user_with_password : PolicyDoc → Option (List ℕ) → List ℕ → Option User
user_with_password doc None pass = None
user_with_password doc (Some name) pass = find (λ u. pointwise nat_eq u.user name && pointwise nat_eq u.password pass) (users_of doc)

-- the user of that name
abbrev pub user_named : PolicyDoc → List ℕ → Option User
user_named doc name = find (λ (u : User). pointwise nat_eq u.user name) (users_of doc)

-- whether two users have the same name, password and account
abbrev pub is_same_user : User → User → Bool
is_same_user u v = pointwise nat_eq u.user v.user && pointwise nat_eq u.password v.password && pointwise nat_eq u.account v.account

-- the user that a policy has in place of another: the same, but for what it may do
abbrev pub user_again : PolicyDoc → User → Option User
user_again doc v = find (λ u. is_same_user u v) (users_of doc)
