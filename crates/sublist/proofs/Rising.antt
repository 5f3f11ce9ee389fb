-- Lists of ids that rise, and lists with the same members.
use Rattle.std.proofs.Common.{◌≡◌, ◌==◌, ◌<◌, ◌≤◌, ℕ, Bool, true, false, ◌||◌, not, List, [], ◌∷◌, refl, sym, ap, subst, ◌∙◌, inl, inr, arith, eqb}
use Rattle.std.specs.List.{filter, dedup, list_any, AllByRecursion, Contains}
use Rattle.std.specs.List.Sorted.{IsStrictlySortedBy}
use Rattle.std.specs.Map.{keys_of}
use Rattle.std.specs.Ordering.{nat_cmp, is_eq, match_ordering}
use Rattle.std.specs.BTreeSet.{insert_key}
use Rattle.std.specs.Set.{remove_key}
use Rattle.std.specs.declared.cmp.Ordering.{Ordering}
use Rattle.std.specs.declared.cmp.Ordering.TheVariants.{Less, Equal, Greater}
use Rattle.std.proofs.lemmas.Bool.{cases_Bool, false≢true, eqb-true, eq-eqb, or_cases, or_left}
use Rattle.std.proofs.lemmas.Bool.Decides.{nat_tests}
use Rattle.std.proofs.lemmas.List.Folds.{Any-from_list_any, list_any-from_Any}
use Rattle.std.proofs.lemmas.List.Kept.{Contains-dedup_nat, Contains-from_dedup}
use Rattle.sublist.specs.Tree.{contains}

-- two tests that imply each other are equal
pub both_or_none : (a b : Bool) → (a ≡ true → b ≡ true) → (b ≡ true → a ≡ true) → a ≡ b
both_or_none true b h k = sym (h refl)
both_or_none false true h k = k refl
both_or_none false false h k = refl

less : (x y : ℕ) → nat_cmp x y ≡ Less → x < y
less x y e = grind (arith, nat_tests)

module _ (x i : ℕ) where
  above : (xs : List ℕ) → AllByRecursion (λ y. nat_cmp x y ≡ Less) xs → contains xs i ≡ true → x < i
  above [] h e = absurd (false≢true e)
  above (y ∷ ys) h e = elim (or_cases (y == i) (contains ys i) e) [
    | inl same ↦ subst (λ z. x < z) (eqb-true y i same) (less x y h.0)
    | inr later ↦ above ys h.1 later
  ]

head_parts : (x : ℕ) (xs : List ℕ) → IsStrictlySortedBy nat_cmp (x ∷ xs) → AllByRecursion (λ y. nat_cmp x y ≡ Less) xs × IsStrictlySortedBy nat_cmp xs
unfolding IsStrictlySortedBy
head_parts x xs h = h

-- the first of one list is no later than that of the other
first_le : (x y : ℕ) (xs ys : List ℕ) → IsStrictlySortedBy nat_cmp (y ∷ ys) → ((i : ℕ) → contains (x ∷ xs) i ≡ contains (y ∷ ys) i) → y ≤ x
first_le x y xs ys s same = elim (or_cases (y == x) (contains ys x) (sym (same x) ∙ or_left (x == x) (contains xs x) (eq-eqb x x refl))) [
  | inl e ↦ omega (arith, eqb-true y x e)
  | inr e ↦ omega (arith, above y x ys (head_parts y ys s).0 e)
]

-- what is left behind an equal first has the same members
same_behind : (x : ℕ) (xs ys : List ℕ) → IsStrictlySortedBy nat_cmp (x ∷ xs) → IsStrictlySortedBy nat_cmp (x ∷ ys) → ((i : ℕ) → contains (x ∷ xs) i ≡ contains (x ∷ ys) i) → (i : ℕ) → contains xs i ≡ contains ys i
same_behind x xs ys s t same i = elim (cases_Bool (x == i)) [
  | inl e ↦ none xs (head_parts x xs s).0 e ∙ sym (none ys (head_parts x ys t).0 e)
  | inr e ↦ rw e at (same i)
]
  where
    none : (zs : List ℕ) → AllByRecursion (λ y. nat_cmp x y ≡ Less) zs → (x == i) ≡ true → contains zs i ≡ false
    none zs h e = elim (cases_Bool (contains zs i)) [ inl y ↦ absurd (omega (arith, above x i zs h y, eqb-true x i e)) | inr n ↦ n ]

-- rising lists with the same members are equal
pub unique : (xs ys : List ℕ) → IsStrictlySortedBy nat_cmp xs → IsStrictlySortedBy nat_cmp ys → ((i : ℕ) → contains xs i ≡ contains ys i) → xs ≡ ys
unique [] [] s t same = refl
unique [] (y ∷ ys) s t same = absurd (false≢true (same y ∙ or_left (y == y) (contains ys y) (eq-eqb y y refl)))
unique (x ∷ xs) [] s t same = absurd (false≢true (sym (same x) ∙ or_left (x == x) (contains xs x) (eq-eqb x x refl)))
unique (x ∷ xs) (y ∷ ys) s t same =
    let e : x ≡ y = omega (arith, first_le x y xs ys t same, first_le y x ys xs s (λ i. sym (same i))) in
    let t' = subst (λ z. IsStrictlySortedBy nat_cmp (z ∷ ys)) (sym e) t in
    let same' = subst (λ z. (i : ℕ) → contains (x ∷ xs) i ≡ contains (z ∷ ys) i) (sym e) same in
    ap (λ z. z ∷ xs) e ∙ ap (λ zs. y ∷ zs) (unique xs ys (head_parts x xs s).1 (head_parts x ys t').1 (same_behind x xs ys s t' same'))

to_Contains : (xs : List ℕ) (i : ℕ) → contains xs i ≡ true → Contains xs i
to_Contains xs i h = let a = Any-from_list_any (λ j. j == i) xs h in subst (Contains xs) (eqb-true a.1 i a.4) (a.0, a.2, a.3)

from_Contains : (xs : List ℕ) (i : ℕ) → Contains xs i → contains xs i ≡ true
from_Contains xs i h = list_any-from_Any (λ j. j == i) xs (h.0, i, h.1, h.2, eq-eqb i i refl)

-- each member once
pub contains-dedup : (xs : List ℕ) (i : ℕ) → contains (dedup eqb xs) i ≡ contains xs i
contains-dedup xs i = both_or_none _ _
    (λ h. from_Contains xs i (Contains-from_dedup eqb xs i (to_Contains (dedup eqb xs) i h)))
    (λ h. from_Contains (dedup eqb xs) i (Contains-dedup_nat xs i (to_Contains xs i h)))

module _ {X : Type 0} where
  kept : (P : ℕ → Type 0) (p : ℕ × X → Bool) (es : List (ℕ × X)) → AllByRecursion P (keys_of es) → AllByRecursion P (keys_of (filter p es))
  kept P p [] h = tt
  kept P p (e ∷ es) h = elim (cases_Bool (p e)) [
    | inl y ↦ rw y (h.0, kept P p es h.1)
    | inr n ↦ rw n (kept P p es h.1)
  ]

  -- what a filter keeps of rising ids rises
  pub keys-filter : (p : ℕ × X → Bool) (es : List (ℕ × X)) → IsStrictlySortedBy nat_cmp (keys_of es) → IsStrictlySortedBy nat_cmp (keys_of (filter p es))
  unfolding IsStrictlySortedBy
  keys-filter p [] h = tt
  keys-filter p (e ∷ es) h = elim (cases_Bool (p e)) [
    | inl y ↦ rw y (kept _ p es h.0, keys-filter p es h.1)
    | inr n ↦ rw n (keys-filter p es h.1)
  ]

-- ---- a set of ids in order

-- the order says which ids are equal
equal_by_order : (id i : ℕ) → is_eq (nat_cmp id i) ≡ (i == id)
equal_by_order id i = elim (cases_Bool (i == id)) [
  | inl y ↦ rw y (sym (same (eqb-true i id y)))
  | inr n ↦ rw n (other n)
]
  where
    same : i ≡ id → true ≡ is_eq (nat_cmp id i)
    same e = grind (arith, nat_tests, e)

    other : (i == id) ≡ false → is_eq (nat_cmp id i) ≡ false
    other n = grind (arith, nat_tests, n)

-- whether a set has an id
pub found_by_order : (id : ℕ) (ids : List ℕ) → list_any (λ i. is_eq (nat_cmp id i)) ids ≡ contains ids id
found_by_order id [] = refl
found_by_order id (i ∷ ids) = rw (equal_by_order id i, found_by_order id ids) refl

above_stay : (id : ℕ) (ids : List ℕ) → AllByRecursion (λ i. nat_cmp id i ≡ Less) ids → ids ≡ filter (λ i. not (i == id)) ids
above_stay id [] h = refl
above_stay id (i ∷ ids) h =
    let apart : (i == id) ≡ false = grind (arith, nat_tests, h.0) in
    rw apart (ap (λ is. i ∷ is) (above_stay id ids h.1))

-- a set without an id
pub filtered_by_order : (id : ℕ) (ids : List ℕ) → IsStrictlySortedBy nat_cmp ids → remove_key (λ i. is_eq (nat_cmp id i)) ids ≡ filter (λ i. not (i == id)) ids
filtered_by_order id [] h = refl
filtered_by_order id (i ∷ ids) h =
    let parts = head_parts i ids h in
    elim (cases_Bool (i == id)) [
      | inl y ↦ rw (equal_by_order id i, y) (above_stay id ids (subst (λ x. AllByRecursion (λ j. nat_cmp x j ≡ Less) ids) (eqb-true i id y) parts.0))
      | inr n ↦ rw (equal_by_order id i, n) (ap (λ is. i ∷ is) (filtered_by_order id ids parts.1))
    ]

-- a set with one id more
pub contains-insert_key : (id : ℕ) (ids : List ℕ) (i : ℕ) → contains (insert_key nat_cmp ids id) i ≡ (contains ids i || id == i)
contains-insert_key id [] i = last (id == i)
  where
    last : (b : Bool) → (b || false) ≡ b
    last true = refl
    last false = refl
contains-insert_key id (j ∷ ids) i = at (nat_cmp id j) refl (contains-insert_key id ids i)
  where
    turned : (a b : Bool) → (a || b) ≡ (b || a)
    turned true true = refl
    turned true false = refl
    turned false true = refl
    turned false false = refl

    held : (a b c : Bool) → (c ≡ true → a ≡ true) → (a || b) ≡ ((a || b) || c)
    held true b c h = refl
    held false true c h = refl
    held false false true h = h refl
    held false false false h = refl

    behind : (a b c : Bool) → (a || (b || c)) ≡ ((a || b) || c)
    behind true b c = refl
    behind false b c = refl

    at : (o : Ordering) → nat_cmp id j ≡ o → contains (insert_key nat_cmp ids id) i ≡ (contains ids i || id == i)
        → contains (match_ordering o (id ∷ j ∷ ids) (j ∷ ids) (j ∷ insert_key nat_cmp ids id)) i ≡ ((j == i || contains ids i) || id == i)
    at Less e more = turned (id == i) (j == i || contains ids i)
    at Equal e more = held (j == i) (contains ids i) (id == i) (λ y. let same : j ≡ id = grind (arith, nat_tests, e) in rw same y)
    at Greater e more = ap (λ b. j == i || b) more ∙ behind (j == i) (contains ids i) (id == i)
