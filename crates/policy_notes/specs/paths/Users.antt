-- Where in a policy's text a user stands (docs/POLICY.md, "Where a fault stands").
use Rattle.std.specs.Prelude.{ℕ, Bool, List, [], Option, Some, None, codes, find, position, if◌then◌else◌}
use Rattle.std.specs.List.{list_any}
use Rattle.std.specs.Option.{option_and_then, option_map}
use Rattle.std.specs.Str.{bytes_eq, is_utf8}
use Rattle.policy_doc.specs.Accounts.{Name}
use Rattle.policy_doc.specs.declared.document.NamedAccount.{NamedAccount}
use Rattle.policy_doc.specs.declared.document.PolicyDoc.{PolicyDoc}
use Rattle.policy_doc.specs.declared.document.UserDoc.{UserDoc}
use Rattle.policy_walk.specs.Path.{Path, at_key, at_index}

abbrev pub has_name : Name → UserDoc → Bool
has_name name u = bytes_eq u.user name

abbrev pub has_user : Name → NamedAccount → Bool
has_user name a = list_any (has_name name) a.account.users

-- a row of an account, in the list under a key
abbrev pub row_path : List ℕ → List ℕ → ℕ → Path
row_path account list row = at_index (at_key (at_key (at_key [] (codes "accounts")) account) list) row

-- a name as a text, if it is one
abbrev pub text_if : List ℕ → Option (List ℕ)
text_if name = if is_utf8 name then Some name else None

-- the first user of a name in an account
abbrev pub path_in : Name → NamedAccount → Option Path
path_in name a = option_and_then (λ account. option_map (row_path account (codes "users")) (position (has_name name) a.account.users)) (text_if a.name)

-- the first user of a name
abbrev pub user_path : PolicyDoc → Name → Option Path
user_path doc name = option_and_then (path_in name) (find (has_user name) doc.accounts)
