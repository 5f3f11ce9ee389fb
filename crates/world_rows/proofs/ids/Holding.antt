-- What a change of one account's tree changes of what the trees hold.
use Rattle.std.proofs.Common.{◌≡◌, ◌==◌, ℕ, Bool, true, false, not, ◌&&◌, ◌||◌, cond, List, Option, Some, None, Vec, refl, sym, ap, subst, ◌∙◌, inl, inr}
use Rattle.std.specs.Map.{lookup, KeepsOthers, IsKeyTest, AreApart}
use Rattle.std.specs.Cmp.Lexicographic.{nat_list_eq_equiv}
use Rattle.std.specs.declared.alloc.Global.{Global}
use Rattle.std.proofs.lemmas.Bool.{cases_Bool, and_parts, eqb-true, or_left}
use Rattle.std.proofs.Math.Bool.{or-false}
use Rattle.sublist.proofs.Index.{same_path-is}
use Rattle.subjects.proofs.Same.{equal_from_same}
use Rattle.subjects.specs.Subject.{Token, same_token}
use Rattle.sublist.specs.declared.tree.Sublist.{Sublist}
use Rattle.sublist.specs.Tree.{same_path}
use Rattle.sublist.specs.Pairs as pairs
use Rattle.world_rows.specs.ids.Entries.{in_tree}

abbrev pub Entries : Type 0
Entries = List (Vec ℕ Global × Sublist)

-- the key is this account
abbrev pub has : List ℕ → Vec ℕ Global → Bool
has account k = same_token account k.items

-- whether the account's tree has the pair
abbrev pub in_one : Entries → List ℕ → List Token → ℕ → Bool
in_one es account p i = in_tree p i (lookup (has account) es)

module _ {X : Type 0} (a : List ℕ) (old new : List (Vec ℕ Global × X)) (o : Option X) where
  keeps : KeepsOthers (λ x y. same_token x.items y.items) (has a) old new → (other : Vec ℕ Global → Bool) → IsKeyTest (λ x y. same_token x.items y.items) other → AreApart (has a) other → lookup other new ≡ lookup other old
  unfolding KeepsOthers
  keeps h = h

  apart_keys : (b : List ℕ) → same_token a b ≡ false → AreApart (has a) (has b)
  apart_keys b n k y = nat_list_eq_equiv.symm b k.items ∙ (sym (nat_list_eq_equiv.congr a k.items b y) ∙ n)

  -- a map with o at the account, and with what it had at each other
  pub looked_up : lookup (has a) new ≡ o → KeepsOthers (λ x y. same_token x.items y.items) (has a) old new → (b : List ℕ) → lookup (has b) new ≡ cond (same_token a b) o (lookup (has b) old)
  looked_up here others b = elim (cases_Bool (same_token a b)) [
    | inl s ↦ rw s (subst (λ x. lookup (has x) new ≡ o) (equal_from_same a b s) here)
    | inr s ↦ rw s (keeps others (has b) (λ x y. nat_list_eq_equiv.congr b x.items y.items) (apart_keys b s))
  ]

-- what stands in the account's tree is what g gives of what stood there
at_account : (a : List ℕ) (old new : Entries) (w : Sublist) (g : List Token → ℕ → Bool → Bool) → lookup (has a) new ≡ Some w → KeepsOthers (λ x y. same_token x.items y.items) (has a) old new
    → ((p : List Token) (i : ℕ) → pairs.stands w p i ≡ g p i (in_one old a p i))
    → (b : List ℕ) (p : List Token) (i : ℕ) → in_one new b p i ≡ cond (same_token a b) (g p i (in_one old b p i)) (in_one old b p i)
at_account a old new w g here others h b p i = elim (cases_Bool (same_token a b)) [
  | inl s ↦ rw (looked_up a old new (Some w) here others b, s) (subst (λ x. pairs.stands w p i ≡ g p i (in_one old x p i)) (equal_from_same a b s) (h p i))
  | inr s ↦ rw (looked_up a old new (Some w) here others b, s) refl
]

or_under : (s x m : Bool) → cond s (x || m) x ≡ (x || (s && m))
or_under true x m = refl
or_under false true m = refl
or_under false false m = refl

and_under : (s x m : Bool) → cond s (x && not m) x ≡ (x && not (s && m))
and_under true x m = refl
and_under false true m = refl
and_under false false m = refl

either_way : (s x : Bool) → cond s x x ≡ x
either_way true x = refl
either_way false x = refl

module _ (a : List ℕ) (old new : Entries) (w : Sublist) (here : lookup (has a) new ≡ Some w) (others : KeepsOthers (λ x y. same_token x.items y.items) (has a) old new) where
  -- the account's tree has a pair besides
  pub one_more : (tree : Sublist) (p : List Token) (id : ℕ) → Some tree ≡ lookup (has a) old → pairs.IsWith tree p id w
      → (b : List ℕ) (q : List Token) (i : ℕ) → in_one new b q i ≡ (in_one old b q i || (same_token a b && (id == i && same_path p q)))
  one_more tree p id was more b q i =
      at_account a old new w (λ q i x. x || (id == i && same_path p q)) here others (λ q i. more q i ∙ ap (λ o. in_tree q i o || (id == i && same_path p q)) was) b q i
      ∙ or_under (same_token a b) (in_one old b q i) (id == i && same_path p q)

  -- the account had no tree, and has one with this pair
  pub first_one : (p : List Token) (id : ℕ) → None ≡ lookup (has a) old → ((q : List Token) (i : ℕ) → pairs.stands w q i ≡ (id == i && same_path p q))
      → (b : List ℕ) (q : List Token) (i : ℕ) → in_one new b q i ≡ (in_one old b q i || (same_token a b && (id == i && same_path p q)))
  first_one p id was only b q i =
      at_account a old new w (λ q i x. x || (id == i && same_path p q)) here others (λ q i. only q i ∙ ap (λ o. in_tree q i o || (id == i && same_path p q)) was) b q i
      ∙ or_under (same_token a b) (in_one old b q i) (id == i && same_path p q)

  -- the account's tree has a pair less
  pub one_less : (tree : Sublist) (p : List Token) (id : ℕ) → Some tree ≡ lookup (has a) old → pairs.IsWithout tree p id w
      → (b : List ℕ) (q : List Token) (i : ℕ) → in_one new b q i ≡ (in_one old b q i && not (same_token a b && (id == i && same_path p q)))
  one_less tree p id was less b q i =
      at_account a old new w (λ q i x. x && not (id == i && same_path p q)) here others (λ q i. less q i ∙ ap (λ o. in_tree q i o && not (id == i && same_path p q)) was) b q i
      ∙ and_under (same_token a b) (in_one old b q i) (id == i && same_path p q)

  -- the account's tree has the same pairs
  pub same_ones : (tree : Sublist) → Some tree ≡ lookup (has a) old → pairs.IsSame tree w → (b : List ℕ) (q : List Token) (i : ℕ) → in_one new b q i ≡ in_one old b q i
  same_ones tree was same b q i =
      at_account a old new w (λ q i x. x) here others (λ q i. same q i ∙ ap (λ o. in_tree q i o) was) b q i
      ∙ either_way (same_token a b) (in_one old b q i)

-- ---- one tree

-- the pair stands already
pub with_present : (tree new : Sublist) (p : List Token) (id : ℕ) → pairs.stands tree p id ≡ true → pairs.IsSame tree new → pairs.IsWith tree p id new
with_present tree new p id stood same q i = elim (cases_Bool (id == i && same_path p q)) [
  | inl y ↦ let parts = and_parts (id == i) (same_path p q) y in
      let stands_too : pairs.stands tree q i ≡ true = subst (λ n. pairs.stands tree q n ≡ true) (eqb-true id i parts.0) (subst (λ x. pairs.stands tree x id ≡ true) (same_path-is p q parts.1) stood) in
      same q i ∙ (stands_too ∙ sym (or_left _ _ stands_too))
  | inr n ↦ same q i ∙ rw n (sym (or-false (pairs.stands tree q i)))
]

-- the pair doesn't stand
pub without_absent : (tree new : Sublist) (p : List Token) (id : ℕ) → pairs.stands tree p id ≡ false → pairs.IsSame tree new → pairs.IsWithout tree p id new
without_absent tree new p id none same q i = elim (cases_Bool (id == i && same_path p q)) [
  | inl y ↦ let parts = and_parts (id == i) (same_path p q) y in
      let absent : pairs.stands tree q i ≡ false = subst (λ n. pairs.stands tree q n ≡ false) (eqb-true id i parts.0) (subst (λ x. pairs.stands tree x id ≡ false) (same_path-is p q parts.1) none) in
      same q i ∙ rw absent refl
  | inr n ↦ same q i ∙ rw n (and_under false (pairs.stands tree q i) true)
]
