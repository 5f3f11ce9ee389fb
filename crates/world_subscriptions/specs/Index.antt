-- What the trees of the accounts hold of the subscriptions: the account, the pattern and the id of each.
use Rattle.std.specs.Prelude.{◌≡◌, ◌==◌, ◌&&◌, not, ℕ, Bool, List, [], ◌∷◌, ◌++◌, Option, Some, None}
use Rattle.std.specs.Prelude.{find, map}
use Rattle.std.specs.List.{list_any}
use Rattle.std.specs.Map.{values_of}
use Rattle.subjects.specs.Subject.{Token, same_token}
use Rattle.sublist.specs.Tree.{same_path}
use Rattle.world_rows.specs.ids.Trees as trees
use Rattle.world_rows.specs.declared.ids.trees.Trees.{Trees}
use Rattle.world_rows.specs.declared.subscription.Subscription.{Subscription}
use Rattle.world_subscriptions.specs.Kept.{IsKept, Apart}

-- whether the subscription has this account, pattern and id
abbrev pub is_of : Subscription → List ℕ → List Token → ℕ → Bool
is_of s account p id = same_token s.account account && (s.id == id && same_path s.subject p)

-- whether one of the subscriptions has them
abbrev pub listed : List Subscription → List ℕ → List Token → ℕ → Bool
listed subs account p id = list_any (λ (s : Subscription). is_of s account p id) subs

-- they hold the subscription besides
abbrev pub IsWith : Trees → Subscription → Trees → Type 0
IsWith old s new = trees.IsWith old s.account s.subject s.id new

-- they hold all but the subscription
abbrev pub IsWithout : Trees → Subscription → Trees → Type 0
IsWithout old s new = trees.IsWithout old s.account s.subject s.id new

-- they hold all but these subscriptions
abbrev pub IsWithoutAll : Trees → List Subscription → Trees → Type 0
IsWithoutAll old subs new = (account : List ℕ) (p : List Token) (id : ℕ) → trees.holds new account p id ≡ (trees.holds old account p id && not (listed subs account p id))

-- the trees are the list's index: they hold its subscriptions, and nothing else
pub record AreIndexesOf (subs : List Subscription) (index : Trees) : Type 0 where
  pub each : (account : List ℕ) (p : List Token) (id : ℕ) → trees.holds index account p id ≡ listed subs account p id

-- the rows are kept in order, and the trees are their index
abbrev pub IsTable : List (ℕ × Subscription) → Trees → Type 0
IsTable es index = IsKept es × Apart (values_of es) × AreIndexesOf (values_of es) index

-- the ids of subscriptions, in the list's order
abbrev pub ids_of : List Subscription → List ℕ
ids_of subs = map (λ (s : Subscription). s.id) subs

-- what is found, as a list
abbrev pub if_any : Option Subscription → List Subscription
if_any None = []
if_any (Some s) = s ∷ []

-- the subscriptions of these ids, in the order of the ids
abbrev pub found_by : List Subscription → List ℕ → List Subscription
found_by subs [] = []
found_by subs (id ∷ ids) = if_any (find (λ (s : Subscription). s.id == id) subs) ++ found_by subs ids
