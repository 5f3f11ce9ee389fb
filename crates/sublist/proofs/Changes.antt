-- The pairs that stand after a change at one path.
use Rattle.std.proofs.Common.{◌≡◌, ◌==◌, ℕ, Bool, true, false, not, ◌&&◌, ◌||◌, List, [], ◌∷◌, refl, inl, inr, arith, leb, length}
use Rattle.std.specs.List.{list_all, filter}
use Rattle.std.proofs.lemmas.Bool.{cases_Bool, and_parts}
use Rattle.std.proofs.lemmas.Bool.Decides.{nat_tests}
use Rattle.subjects.specs.Subject.{Token, is_token, is_pattern, tail_is_last}
use Rattle.sublist.specs.declared.node.Node.{Node}
use Rattle.sublist.specs.Tree.{ids_at, same_path, contains, IsAdded, IsRemoved}
use Rattle.sublist.proofs.Rising.{contains-insert_key}

-- a pattern has `>` in last place or nowhere
pub last_or_nowhere : (ts : List Token) → is_pattern ts ≡ true → tail_is_last ts ≡ true
last_or_nowhere [] h = refl
last_or_nowhere (t ∷ ts) h = (and_parts (list_all is_token (t ∷ ts)) (tail_is_last (t ∷ ts)) (and_parts (list_all is_token (t ∷ ts) && tail_is_last (t ∷ ts)) (leb (length (t ∷ ts)) 512) h).0).1

nothing : (b : Bool) → (b && false) ≡ false
nothing true = refl
nothing false = refl

-- an id that is not taken out
kept_id : (id : ℕ) (ids : List ℕ) (i : ℕ) → contains (filter (λ j. not (j == id)) ids) i ≡ (contains ids i && not (id == i))
kept_id id [] i = refl
kept_id id (j ∷ ids) i = elim (cases_Bool (j == i)) [
  | inl y ↦ elim (cases_Bool (id == i)) [
    | inl z ↦
        let gone : (j == id) ≡ true = grind (arith, nat_tests, y, z) in
        rw (gone, kept_id id ids i, y, z) (nothing (contains ids i))
    | inr z ↦
        let stays : (j == id) ≡ false = grind (arith, nat_tests, y, z) in
        rw (stays, y, z) refl
  ]
  | inr n ↦ elim (cases_Bool (j == id)) [
    | inl z ↦ rw (z, n) (kept_id id ids i)
    | inr z ↦ rw (z, n) (kept_id id ids i)
  ]
]

here : (a b : Bool) → (a && not b) ≡ (a && not (b && true))
here true true = refl
here true false = refl
here false b = refl

away : (a b : Bool) → a ≡ (a && not (b && false))
away true true = refl
away true false = refl
away false b = refl

-- every pair but this one stands
pub removed : (p : List Token) (id : ℕ) (old new : Node) → IsRemoved p id old new → (q : List Token) (i : ℕ) → contains (ids_at q new) i ≡ (contains (ids_at q old) i && not (id == i && same_path p q))
removed p id old new h q i = rw (h q) (elim (cases_Bool (same_path p q)) [
  | inl y ↦ rw (y, kept_id id (ids_at q old) i) (here _ _)
  | inr n ↦ rw n (away _ _)
])

with_one : (a b : Bool) → (a || b) ≡ (a || (b && true))
with_one true b = refl
with_one false true = refl
with_one false false = refl

with_none : (a b : Bool) → a ≡ (a || (b && false))
with_none true b = refl
with_none false true = refl
with_none false false = refl

-- this pair stands besides
pub added : (p : List Token) (id : ℕ) (old new : Node) → IsAdded p id old new → (q : List Token) (i : ℕ) → contains (ids_at q new) i ≡ (contains (ids_at q old) i || (id == i && same_path p q))
added p id old new h q i = rw (h q) (elim (cases_Bool (same_path p q)) [
  | inl y ↦ rw (y, contains-insert_key id (ids_at q old) i) (with_one _ _)
  | inr n ↦ rw n (with_none _ _)
])
