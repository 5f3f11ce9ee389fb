-- The users of a policy in two orders.
use Rattle.std.specs.Prelude.{◌≡◌, ◌<◌, All, Bool, false, true, ℕ, List, length, map, nat_eq, Option, Result, IfSome, MatchOption, MatchResult, is_some}
use Rattle.std.specs.List.{flat_map, list_any, slice_index_or, Contains}
use Rattle.std.specs.List.Sorted.{IsPermutation, IsSortedByKey}
use Rattle.std.specs.Option.{option_map}
use Rattle.std.specs.Ordering.{nat_cmp}
use Rattle.std.specs.Cmp.Lexicographic.{pointwise, slice_cmp}
use Rattle.permissions.specs.Lists.{lists_with}
use Rattle.policy_doc.specs.Document.{IsValidPolicy}
use Rattle.policy_doc.specs.declared.document.NamedAccount.{NamedAccount}
use Rattle.policy_doc.specs.declared.document.PolicyDoc.{PolicyDoc}
use Rattle.policy_doc.specs.declared.document.UserDoc.{UserDoc}
use Rattle.policy_ready.specs.Users.{user_named, users_of}
use Rattle.policy_ready.specs.declared.ready.User.{User}
use Rattle.compare.specs.declared.members.Member.{Member}
use Rattle.compare.specs.declared.members.Members.{Members}
use Rattle.compare.specs.declared.members.Row.{Row}

abbrev pub user_of : Member → User
user_of m = m.user.now

abbrev pub name_of : Member → List ℕ
name_of m = m.user.now.user

abbrev pub has_name : List ℕ → Member → Bool
has_name name m = pointwise nat_eq (name_of m) name

-- whether users have permissions of their own
abbrev pub owns : UserDoc → Bool
owns u = is_some u.permissions

abbrev pub owns_in : NamedAccount → List Bool
owns_in a = map owns a.account.users

abbrev pub owns_of : PolicyDoc → List Bool
owns_of doc = flat_map owns_in doc.accounts

abbrev pub row_owns : Row → Bool
row_owns r = r.has_own

abbrev pub member_owns : Member → Bool
member_owns m = m.has_own

-- A user of a policy, which has the default permissions if it has none of its own.
pub record IsMember (doc : PolicyDoc) (m : Member) : Type 0 where
  pub among : Contains (users_of doc) (user_of m)
  pub usual : m.has_own ≡ false → (user_of m).rules ≡ lists_with doc.default_permissions

-- All users of a valid policy, in both orders.
pub record AreMembers (doc : PolicyDoc) (ms : Members) : Type 0 where
  pub valid : IsValidPolicy doc
  pub all : IsPermutation (users_of doc) (map user_of ms.by_account.items)
  pub each : All (IsMember doc) ms.by_account.items
  pub all_named : IsPermutation (users_of doc) (map user_of ms.by_name.items)
  pub each_named : All (IsMember doc) ms.by_name.items
  pub sorted : IsSortedByKey name_of (slice_cmp nat_cmp) ms.by_name.items

-- one of some users has a name, or none has
abbrev pub IsFoundIn : List Member → List ℕ → Option Member → Type 0
IsFoundIn ms name found = MatchOption found (list_any (has_name name) ms ≡ false) (λ m. Contains ms m × (has_name name m ≡ true))

-- where one stands that has it, or none has
abbrev pub IsPlaceIn : List Member → List ℕ → Result ℕ ℕ → Type 0
IsPlaceIn ms name found =
    MatchResult found (λ i. (i < length ms) × ((d : Member) → has_name name (slice_index_or ms i d) ≡ true)) (λ i. list_any (has_name name) ms ≡ false)

-- the user of a name, or none has it
abbrev pub IsNamed : PolicyDoc → List ℕ → Option Member → Type 0
IsNamed doc name found = (user_named doc name ≡ option_map user_of found) × IfSome found (IsMember doc)
