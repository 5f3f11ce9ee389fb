-- What stands where in a tree of nodes.
use Rattle.std.specs.Prelude.{◌≡◌, ◌==◌, ℕ, Bool, false, not, cond, List, [], ◌∷◌, ◌++◌, Option, Some, None, Vec, Box}
use Rattle.std.specs.List.{list_any, filter}
use Rattle.std.specs.BTreeSet.{insert_key}
use Rattle.std.specs.HashMap.{HashMap}
use Rattle.std.specs.Map.{lookup, KeepsOthers}
use Rattle.std.specs.Ordering.{nat_cmp}
use Rattle.std.specs.Cmp.Lexicographic.{pointwise}
use Rattle.std.specs.declared.alloc.Global.{Global}
use Rattle.std.specs.declared.random_state.RandomState.{RandomState}
use Rattle.subjects.specs.Subject.{Token, is_star, is_tail, same_token}
use Rattle.sublist.specs.declared.node.Node.{Node}
use Rattle.sublist.specs.declared.node.Node.TheViews.{out-Node}
use Rattle.sublist.specs.declared.ids.Ids.{Ids}
use Rattle.sublist.specs.declared.ids.Ids.TheVariants as ids
use Rattle.sublist.specs.declared.branch.Branch.{Branch}
use Rattle.sublist.specs.declared.branch.Branch.TheVariants.{End, Tail, Star, Literal}

-- the ids, in rising order
abbrev pub held : Ids → List ℕ
held ids.None = []
held (ids.One id) = id ∷ []
held (ids.Several set) = set.value.keys

-- the nodes below literal tokens, by their tokens
abbrev pub Entries : Type 0
Entries = List (Vec ℕ Global × Box Node Global)

-- those of a table that may be missing
abbrev pub named : Option (Box (HashMap (Vec ℕ Global) (Box Node Global) RandomState) Global) → Entries
named None = []
named (Some children) = children.value.entries

-- the key is this token
abbrev pub has : Token → Vec ℕ Global → Bool
has t k = same_token t k.items

-- the node below a literal token
abbrev pub child_of : Token → Node → Option (Box Node Global)
child_of t n = lookup (has t) (named (out-Node n).children)

-- the new entries have this node at a token, and at each other token what the old ones have
abbrev pub IsPut : Entries → Token → Box Node Global → Entries → Type 0
IsPut old t child new = (lookup (has t) new ≡ Some child) × KeepsOthers (λ a b. same_token a.items b.items) (has t) old new

-- what f gives of a node that may be missing
abbrev pub below : (Node → List ℕ) → Option (Box Node Global) → List ℕ
below f None = []
below f (Some n) = f n.value

-- the ids whose patterns have the subject with these tokens left, in the order of the walk
unfoldable pub matched : List Token → Node → List ℕ
matched [] n = held (out-Node n).ids
matched (t ∷ ts) n = held (out-Node n).tail ++ (below (matched ts) (out-Node n).star ++ below (matched ts) (child_of t n))

-- what stands at a path that ends here
abbrev pub at_end : List Token → List ℕ → List ℕ
at_end [] ids = ids
at_end (t ∷ ts) ids = []

-- the ids at the path of a pattern
unfoldable pub ids_at : List Token → Node → List ℕ
ids_at [] n = held (out-Node n).ids
ids_at (t ∷ ts) n =
    cond (is_tail t) (at_end ts (held (out-Node n).tail))
    (cond (is_star t) (below (ids_at ts) (out-Node n).star)
    (below (ids_at ts) (child_of t n)))

abbrev pub same_path : List Token → List Token → Bool
same_path = pointwise same_token

abbrev pub contains : List ℕ → ℕ → Bool
contains ids id = list_any (λ i. i == id) ids

-- the new tree has at each path what the old one has
abbrev pub IsSame : Node → Node → Type 0
IsSame old new = (q : List Token) → ids_at q new ≡ ids_at q old

-- the new tree has at the path p what f gives of the old one's ids there, and at each other path what the old one has
abbrev pub IsChanged : (List ℕ → List ℕ) → List Token → Node → Node → Type 0
IsChanged f p old new = (q : List Token) → ids_at q new ≡ cond (same_path p q) (f (ids_at q old)) (ids_at q old)

-- the new tree has the id at the path p besides
abbrev pub IsAdded : List Token → ℕ → Node → Node → Type 0
IsAdded p id old new = IsChanged (λ ids. insert_key nat_cmp ids id) p old new

-- the tree has this id at the path p, and no other anywhere
abbrev pub HasOnly : List Token → ℕ → Node → Type 0
HasOnly p id n = (q : List Token) → ids_at q n ≡ cond (same_path p q) (id ∷ []) []

-- the new tree has every id but this one at the path p
abbrev pub IsRemoved : List Token → ℕ → Node → Node → Type 0
IsRemoved p id old new = IsChanged (filter (λ i. not (i == id))) p old new

-- where a token leads
abbrev pub IsBranchOf : Token → Branch → Type 0
IsBranchOf t End = ⊥
IsBranchOf t Tail = t ≡ 62 ∷ []
IsBranchOf t Star = t ≡ 42 ∷ []
IsBranchOf t (Literal u) = (t ≡ u.now) × (is_tail t ≡ false) × (is_star t ≡ false)

-- the branch that the first token of a path leads to, and what is left behind it
abbrev pub IsBranch : List Token → Branch → List Token → Type 0
IsBranch path End rest = path ≡ []
IsBranch path Tail rest = path ≡ (62 ∷ []) ∷ rest
IsBranch path Star rest = path ≡ (42 ∷ []) ∷ rest
IsBranch path (Literal t) rest = (path ≡ t.now ∷ rest) × (is_tail t.now ≡ false) × (is_star t.now ≡ false)
