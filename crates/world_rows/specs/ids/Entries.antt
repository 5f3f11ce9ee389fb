-- What the entries of a map of trees hold: an account, a pattern and an id for each subscription.
use Rattle.std.specs.Prelude.{◌≡◌, ℕ, Bool, false, List, Option, Some, None, Vec}
use Rattle.std.specs.List.Sorted.{IsStrictlySortedBy}
use Rattle.std.specs.Map.{lookup, keys_of}
use Rattle.std.specs.Ordering.{nat_cmp}
use Rattle.std.specs.declared.alloc.Global.{Global}
use Rattle.subjects.specs.Subject.{Token, same_token}
use Rattle.sublist.specs.declared.tree.Sublist.{Sublist}
use Rattle.sublist.specs.Pairs as pairs

-- each account with its tree
abbrev pub Entries : Type 0
Entries = List (Vec ℕ Global × Sublist)

-- whether a tree that may be missing has the pair
abbrev pub in_tree : List Token → ℕ → Option Sublist → Bool
in_tree p id None = false
in_tree p id (Some tree) = pairs.stands tree p id

-- whether the account's tree has the pair of this pattern and this id
abbrev pub has_pair : Entries → List ℕ → List Token → ℕ → Bool
has_pair entries account p id = in_tree p id (lookup (λ k. same_token account k.items) entries)

-- what they hold of an account are the pairs of the list, whose ids rise
pub record IsIndexOf (listing : pairs.Pairs) (account : List ℕ) (entries : Entries) : Type 0 where
  pub ascending : IsStrictlySortedBy nat_cmp (keys_of listing)
  pub each : (p : List Token) (id : ℕ) → has_pair entries account p id ≡ pairs.listed listing p id

-- these are the ids of the account's pairs whose pattern has the subject
abbrev pub IsTold : List ℕ → List Token → List ℕ → Entries → Type 0
IsTold account subject ids entries = (listing : pairs.Pairs) → IsIndexOf listing account entries → ids ≡ pairs.matching_ids listing subject
