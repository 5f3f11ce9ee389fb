-- The pairs of a pattern and an id that a tree holds.
use Rattle.std.specs.Prelude.{◌≡◌, ◌==◌, ◌&&◌, ◌||◌, not, ℕ, Bool, false, IsTrue, ◌↔◌, List}
use Rattle.std.specs.List.{list_any, filter}
use Rattle.std.specs.List.Sorted.{IsStrictlySortedBy}
use Rattle.std.specs.Map.{keys_of}
use Rattle.std.specs.Ordering.{nat_cmp}
use Rattle.subjects.specs.Subject.{Token, in_set}
use Rattle.sublist.specs.declared.tree.Sublist.{Sublist}
use Rattle.sublist.specs.Tree.{ids_at, same_path, contains}

-- whether the pair of this pattern and this id stands in the tree
abbrev pub stands : Sublist → List Token → ℕ → Bool
stands tree p id = contains (ids_at p tree.root) id

-- no pair stands
abbrev pub IsEmpty : Sublist → Type 0
IsEmpty tree = (p : List Token) (id : ℕ) → stands tree p id ≡ false

-- the same pairs stand before and after
abbrev pub IsSame : Sublist → Sublist → Type 0
IsSame old new = (p : List Token) (id : ℕ) → stands new p id ≡ stands old p id

-- this pair stands besides
abbrev pub IsWith : Sublist → List Token → ℕ → Sublist → Type 0
IsWith old p id new = (q : List Token) (i : ℕ) → stands new q i ≡ (stands old q i || (id == i && same_path p q))

-- every pair but this one stands
abbrev pub IsWithout : Sublist → List Token → ℕ → Sublist → Type 0
IsWithout old p id new = (q : List Token) (i : ℕ) → stands new q i ≡ (stands old q i && not (id == i && same_path p q))

-- some pattern that has the subject stands with the id
abbrev pub Reaches : Sublist → List Token → ℕ → Type 0
Reaches tree s id = (p : List Token) × IsTrue (stands tree p id) × IsTrue (in_set p s)

-- the ids that the subject reaches, each once, in rising order
pub record IsMatching (tree : Sublist) (s : List Token) (ids : List ℕ) : Type 0 where
  pub ascending : IsStrictlySortedBy nat_cmp ids
  pub each : (id : ℕ) → IsTrue (contains ids id) ↔ Reaches tree s id

-- pairs that the tree's owner keeps in a list of its own: an id, then the tokens of its pattern
abbrev pub Pairs : Type 0
Pairs = List (ℕ × List Token)

-- whether the pair of this pattern and this id is in the list
abbrev pub listed : Pairs → List Token → ℕ → Bool
listed pairs p id = list_any (λ e. e.0 == id && same_path e.1 p) pairs

-- the tree is the index of the list: it holds the list's pairs, whose ids rise, and no other
pub record IsIndexOf (pairs : Pairs) (tree : Sublist) : Type 0 where
  pub ascending : IsStrictlySortedBy nat_cmp (keys_of pairs)
  pub each : (p : List Token) (id : ℕ) → stands tree p id ≡ listed pairs p id

-- the ids of the list's pairs whose pattern has the subject, in the list's order
abbrev pub matching_ids : Pairs → List Token → List ℕ
matching_ids pairs s = keys_of (filter (λ e. in_set e.1 s) pairs)
