-- Accounts under their names (docs/POLICY.md, "Accounts").
use Rattle.std.specs.Prelude.{◌≡◌, ◌++◌, ◌∷◌, ◌<◌, ℕ, Bool, false, List, length, map, filter, IsTrue}
use Rattle.std.specs.List.{HoldsAt, list_any, prefix_len}
use Rattle.std.specs.Ordering.{nat_cmp, is_lt, is_eq, is_gt}
use Rattle.std.specs.Cmp.Lexicographic.{slice_cmp}
use Rattle.std.specs.List.Sorted.{IsStrictlySortedBy}
use Rattle.policy_doc.specs.declared.document.AccountDoc.{AccountDoc}
use Rattle.policy_doc.specs.declared.document.NamedAccount.{NamedAccount}

-- the bytes of a name
abbrev pub Name : Type 0
Name = List ℕ

abbrev pub account_name : NamedAccount → Name
account_name a = a.name

-- each name is below, by its bytes, those after it: so no name stands twice
abbrev pub IsByName : List NamedAccount → Type 0
IsByName accounts = IsStrictlySortedBy (slice_cmp nat_cmp) (map account_name accounts)

-- whether an account's name stands before a name
abbrev pub is_before : Name → NamedAccount → Bool
is_before name a = is_lt (slice_cmp nat_cmp a.name name)

-- whether an account's name stands after a name
abbrev pub is_after : Name → NamedAccount → Bool
is_after name a = is_gt (slice_cmp nat_cmp a.name name)

abbrev pub has_name : Name → NamedAccount → Bool
has_name name a = is_eq (slice_cmp nat_cmp a.name name)

-- an account stands at this place, and has the name
pub record IsPlaceOf (name : Name) (accounts : List NamedAccount) (i : ℕ) : Type 0 where
  pub within : i < length accounts
  pub named : HoldsAt (λ (a : NamedAccount). IsTrue (has_name name a)) accounts i

-- no account has the name, and it belongs at this place: behind those before it
pub record IsGapFor (name : Name) (accounts : List NamedAccount) (i : ℕ) : Type 0 where
  pub none : list_any (has_name name) accounts ≡ false
  pub before : i ≡ prefix_len (is_before name) accounts

-- the accounts before the name, the new account under it, and those after it: an old one of the name is gone
abbrev pub with_account : Name → AccountDoc → List NamedAccount → List NamedAccount
with_account name account accounts =
    filter (is_before name) accounts ++ record { name = name; account = account } ∷ filter (is_after name) accounts
