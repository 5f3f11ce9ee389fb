-- A tree that is the index of a list: what each change keeps, for whoever holds the list.
use Rattle.std.proofs.Common.{◌≡◌, ◌==◌, ◌<◌, ℕ, Bool, true, false, not, ◌&&◌, ◌||◌, List, [], ◌∷◌, ◌++◌, Less, refl, sym, ap, subst, ◌∙◌, inl, inr, arith, IsTrue}
use Rattle.std.specs.List.{filter, AllByRecursion, All}
use Rattle.std.specs.List.Sorted.{IsStrictlySortedBy}
use Rattle.std.specs.Map.{keys_of}
use Rattle.std.specs.Ordering.{nat_cmp}
use Rattle.std.proofs.lemmas.Bool.{cases_Bool, both_ways, false≢true, eqb-true, eq-eqb, or_cases, or_left, or_right, and_parts, and_from}
use Rattle.std.proofs.lemmas.Bool.Decides.{nat_tests}
use Rattle.std.proofs.lemmas.List.Folds.{list_any-append}
use Rattle.std.proofs.lemmas.List.Elements.{recursion_from_All}
use Rattle.std.proofs.lemmas.Slice.Eq.{bytes_eq-Decides, slice_eq-Decides}
use Rattle.subjects.specs.Subject.{Token, same_token, in_set}
use Rattle.sublist.specs.declared.tree.Sublist.{Sublist}
use Rattle.sublist.specs.Tree.{same_path, contains}
use Rattle.sublist.specs.Pairs.{Pairs, stands, listed, matching_ids, IsEmpty, IsSame, IsWith, IsWithout, IsMatching, IsIndexOf}
use Rattle.sublist.proofs.Rising.{both_or_none, unique, keys-filter}

pub same_path-is : (p q : List Token) → same_path p q ≡ true → p ≡ q
same_path-is p q e = (slice_eq-Decides {E = same_token} bytes_eq-Decides p q (same_path p q) refl).0 e

pub same_path-itself : (p : List Token) → same_path p p ≡ true
same_path-itself p = (slice_eq-Decides {E = same_token} bytes_eq-Decides p p (same_path p p) refl).1 refl

same_path-other : (p q : List Token) → same_path p q ≡ false → same_path q p ≡ false
same_path-other p q n = elim (cases_Bool (same_path q p)) [
  | inl y ↦ absurd (both_ways (same_path p q) n (subst (λ x. same_path p x ≡ true) (sym (same_path-is q p y)) (same_path-itself p)))
  | inr m ↦ m
]

-- whether two pairs have the same id and the same pattern, whichever comes first
turned : (i j : ℕ) (p q : List Token) → (i == j && same_path p q) ≡ (j == i && same_path q p)
turned i j p q = both_or_none _ _ (one_way i j p q) (one_way j i q p)
  where
    one_way : (i j : ℕ) (p q : List Token) → (i == j && same_path p q) ≡ true → (j == i && same_path q p) ≡ true
    one_way i j p q h =
        let parts = and_parts (i == j) (same_path p q) h in
        and_from _ _ (eq-eqb j i (sym (eqb-true i j parts.0))) (subst (λ x. same_path x p ≡ true) (same_path-is p q parts.1) (same_path-itself p))

-- ---- what is found

-- a pair of the list whose pattern has the subject gives its id
chosen_to : (pairs : Pairs) (s p : List Token) (i : ℕ) → listed pairs p i ≡ true → in_set p s ≡ true → contains (matching_ids pairs s) i ≡ true
chosen_to [] s p i h m = absurd (false≢true h)
chosen_to ((j, q) ∷ pairs) s p i h m = elim (or_cases (j == i && same_path q p) (listed pairs p i) h) [
  | inl y ↦
      let parts = and_parts (j == i) (same_path q p) y in
      let member : in_set q s ≡ true = subst (λ x. in_set x s ≡ true) (sym (same_path-is q p parts.1)) m in
      rw member (or_left _ _ parts.0)
  | inr y ↦ elim (cases_Bool (in_set q s)) [
    | inl z ↦ rw z (or_right _ _ (chosen_to pairs s p i y m))
    | inr z ↦ rw z (chosen_to pairs s p i y m)
  ]
]

-- and each id comes of one
abbrev Chosen : Pairs → List Token → ℕ → Type 0
Chosen pairs s i = (p : List Token) × IsTrue (listed pairs p i) × IsTrue (in_set p s)

chosen_from : (pairs : Pairs) (s : List Token) (i : ℕ) → contains (matching_ids pairs s) i ≡ true → Chosen pairs s i
chosen_from [] s i h = absurd (false≢true h)
chosen_from ((j, q) ∷ pairs) s i h = elim (cases_Bool (in_set q s)) [
  | inl z ↦ elim (or_cases (j == i) (contains (matching_ids pairs s) i) (rw z at h)) [
    | inl y ↦ (q, or_left _ _ (and_from _ _ y (same_path-itself q)), z)
    | inr y ↦ later (chosen_from pairs s i y)
  ]
  | inr z ↦ later (chosen_from pairs s i (rw z at h))
]
  where
    later : Chosen pairs s i → Chosen ((j, q) ∷ pairs) s i
    later c = (c.0, or_right (j == i && same_path q c.0) _ c.1, c.2)

-- the ids that a subject reaches are those of the list's pairs whose pattern has it
pub matching_of_index : (pairs : Pairs) (tree : Sublist) (s : List Token) (ids : List ℕ) → IsIndexOf pairs tree → IsMatching tree s ids → ids ≡ matching_ids pairs s
matching_of_index pairs tree s ids index matching =
    unique ids (matching_ids pairs s) matching.ascending (keys-filter (λ e. in_set e.1 s) pairs index.ascending)
    (λ i. both_or_none _ _
    (λ h. let r = (matching.each i).0 h in chosen_to pairs s r.0 i (sym (index.each r.0 i) ∙ r.1) r.2)
    (λ h. let c = chosen_from pairs s i h in (matching.each i).1 (c.0, index.each c.0 i ∙ c.1, c.2)))

-- ---- what each change keeps

no_keys : IsStrictlySortedBy nat_cmp []
unfolding IsStrictlySortedBy
no_keys = tt

-- an empty tree is the index of no pair
pub index_of_none : (tree : Sublist) → IsEmpty tree → IsIndexOf [] tree
index_of_none tree none = record { ascending = no_keys; each = none }

-- the same pairs stand
pub index_same : (pairs : Pairs) (old new : Sublist) → IsSame old new → IsIndexOf pairs old → IsIndexOf pairs new
index_same pairs old new same index = record { ascending = index.ascending; each = λ p id. same p id ∙ index.each p id }

less_from : (x y : ℕ) → x < y → nat_cmp x y ≡ Less
less_from x y h = grind (arith, nat_tests)

one_more : (P : ℕ → Type 0) (id : ℕ) (p : List Token) (es : Pairs) → AllByRecursion P (keys_of es) → P id → AllByRecursion P (keys_of (es ++ ((id, p) ∷ [])))
one_more P id p [] h k = (k, tt)
one_more P id p (e ∷ es) h k = (h.0, one_more P id p es h.1 k)

keys-push : (id : ℕ) (p : List Token) (es : Pairs) → AllByRecursion (λ e. e.0 < id) es → IsStrictlySortedBy nat_cmp (keys_of es) → IsStrictlySortedBy nat_cmp (keys_of (es ++ ((id, p) ∷ [])))
unfolding IsStrictlySortedBy
keys-push id p [] b h = (tt, tt)
keys-push id p (e ∷ es) b h = (one_more _ id p es h.0 (less_from e.0 id b.0), keys-push id p es b.1 h.1)

or_nothing : (a b : Bool) → (a || (b || false)) ≡ (a || b)
or_nothing true b = refl
or_nothing false true = refl
or_nothing false false = refl

-- a pair whose id is above all others goes last
pub index_with_newest : (pairs : Pairs) (old new : Sublist) (p : List Token) (id : ℕ) → IsWith old p id new → IsIndexOf pairs old → All (λ e. e.0 < id) pairs → IsIndexOf (pairs ++ ((id, p) ∷ [])) new
index_with_newest pairs old new p id more index newest = record {
  ascending = keys-push id p pairs (recursion_from_All _ pairs newest) index.ascending;
  each = λ q i. more q i ∙ (rw (index.each q i) (sym (list_any-append (λ (e : ℕ × List Token). e.0 == i && same_path e.1 q) pairs ((id, p) ∷ []) ∙ or_nothing (listed pairs q i) (id == i && same_path p q))));
}

not_listed : (pairs : Pairs) (p : List Token) (id : ℕ) → AllByRecursion (λ e. e.0 < id) pairs → listed pairs p id ≡ false
not_listed [] p id h = refl
not_listed (e ∷ es) p id h =
    let apart : (e.0 == id) ≡ false = grind (arith, nat_tests, h.0) in
    rw apart (not_listed es p id h.1)

-- a pair whose id is above all others doesn't stand yet, so its insertion is not answered Present
pub newest_is_absent : (pairs : Pairs) (tree : Sublist) (p : List Token) (id : ℕ) → IsIndexOf pairs tree → All (λ e. e.0 < id) pairs → stands tree p id ≡ false
newest_is_absent pairs tree p id index newest = index.each p id ∙ not_listed pairs p id (recursion_from_All _ pairs newest)

-- a pair that is not taken out
kept_pair : (id : ℕ) (p : List Token) (pairs : Pairs) (q : List Token) (i : ℕ) → listed (filter (λ e. not (e.0 == id && same_path e.1 p)) pairs) q i ≡ (listed pairs q i && not (i == id && same_path q p))
kept_pair id p [] q i = refl
kept_pair id p (e ∷ pairs) q i = elim (cases_Bool (e.0 == i && same_path e.1 q)) [
  | inl y ↦
      let parts = and_parts (e.0 == i) (same_path e.1 q) y in
      let alike : (e.0 == id && same_path e.1 p) ≡ (i == id && same_path q p) = rw (eqb-true e.0 i parts.0, same_path-is e.1 q parts.1) refl in
      elim (cases_Bool (i == id && same_path q p)) [
        | inl z ↦ rw (alike, z, kept_pair id p pairs q i, y, z) (none (listed pairs q i))
        | inr z ↦ rw (alike, z, y) refl
      ]
  | inr n ↦ elim (cases_Bool (e.0 == id && same_path e.1 p)) [
    | inl z ↦ rw (z, n) (kept_pair id p pairs q i)
    | inr z ↦ rw (z, n) (kept_pair id p pairs q i)
  ]
]
  where
    none : (b : Bool) → (b && false) ≡ false
    none true = refl
    none false = refl

-- the pair is filtered out
pub index_without_pair : (pairs : Pairs) (old new : Sublist) (p : List Token) (id : ℕ) → IsWithout old p id new → IsIndexOf pairs old → IsIndexOf (filter (λ e. not (e.0 == id && same_path e.1 p)) pairs) new
index_without_pair pairs old new p id less index = record {
  ascending = keys-filter (λ e. not (e.0 == id && same_path e.1 p)) pairs index.ascending;
  each = λ q i. less q i ∙ rw (index.each q i, turned id i p q) (sym (kept_pair id p pairs q i));
}

-- ---- a pair at its place in the list

all_mid : (P : ℕ → Type 0) (before behind : Pairs) (e : ℕ × List Token) → AllByRecursion P (keys_of (before ++ (e ∷ behind))) → P e.0
all_mid P [] behind e h = h.0
all_mid P (b ∷ before) behind e h = all_mid P before behind e h.1

sorted_parts : (e : ℕ × List Token) (es : Pairs) → IsStrictlySortedBy nat_cmp (keys_of (e ∷ es)) → AllByRecursion (λ y. nat_cmp e.0 y ≡ Less) (keys_of es) × IsStrictlySortedBy nat_cmp (keys_of es)
unfolding IsStrictlySortedBy
sorted_parts e es h = h

above_is_other : (x y : ℕ) → nat_cmp x y ≡ Less → (y == x) ≡ false
above_is_other x y h = grind (arith, nat_tests)

below_is_other : (x y : ℕ) → nat_cmp x y ≡ Less → (x == y) ≡ false
below_is_other x y h = grind (arith, nat_tests)

-- a test that only pairs of this id meet
abbrev IsOf : ℕ → (ℕ × List Token → Bool) → Type 0
IsOf id p = (e : ℕ × List Token) → (e.0 == id) ≡ false → p e ≡ false

all_kept : (id : ℕ) (p : ℕ × List Token → Bool) → IsOf id p → (es : Pairs) → AllByRecursion (λ y. nat_cmp id y ≡ Less) (keys_of es) → filter (λ e. not (p e)) es ≡ es
all_kept id p of [] h = refl
all_kept id p of (e ∷ es) h =
    let stays = of e (above_is_other id e.0 h.0) in
    rw stays (ap (λ xs. e ∷ xs) (all_kept id p of es h.1))

-- where ids rise, taking out what meets the test takes out the one pair
pub filtered_out : (id : ℕ) (path : List Token) (p : ℕ × List Token → Bool) → IsOf id p → p (id, path) ≡ true → (before behind : Pairs) → IsStrictlySortedBy nat_cmp (keys_of (before ++ ((id, path) ∷ behind)))
    → filter (λ e. not (p e)) (before ++ ((id, path) ∷ behind)) ≡ before ++ behind
filtered_out id path p of out [] behind h = rw out (all_kept id p of behind (sorted_parts (id, path) behind h).0)
filtered_out id path p of out (b ∷ before) behind h =
    let parts = sorted_parts b (before ++ ((id, path) ∷ behind)) h in
    let stays = of b (below_is_other b.0 id (all_mid _ before behind (id, path) parts.0)) in
    rw stays (ap (λ xs. b ∷ xs) (filtered_out id path p of out before behind parts.1))

of_pair : (id : ℕ) (path : List Token) → IsOf id (λ e. e.0 == id && same_path e.1 path)
of_pair id path e n = rw n refl

pair_itself : (id : ℕ) (path : List Token) → (id == id && same_path path path) ≡ true
pair_itself id path = and_from _ _ (eq-eqb id id refl) (same_path-itself path)

-- the pair is taken from its place
pub index_without : (before behind : Pairs) (old new : Sublist) (p : List Token) (id : ℕ) → IsWithout old p id new → IsIndexOf (before ++ ((id, p) ∷ behind)) old → IsIndexOf (before ++ behind) new
index_without before behind old new p id less index =
    subst (λ pairs. IsIndexOf pairs new) (filtered_out id p (λ e. e.0 == id && same_path e.1 p) (of_pair id p) (pair_itself id p) before behind index.ascending)
    (index_without_pair (before ++ ((id, p) ∷ behind)) old new p id less index)

-- the pair is filtered out by its id
pub index_without_id : (before behind : Pairs) (old new : Sublist) (p : List Token) (id : ℕ) → IsWithout old p id new → IsIndexOf (before ++ ((id, p) ∷ behind)) old
    → IsIndexOf (filter (λ e. not (e.0 == id)) (before ++ ((id, p) ∷ behind))) new
index_without_id before behind old new p id less index =
    subst (λ pairs. IsIndexOf pairs new) (sym (filtered_out id p (λ e. e.0 == id) (λ e n. n) (eq-eqb id id refl) before behind index.ascending))
    (index_without before behind old new p id less index)

-- a pair of the list stands, so its removal is not answered Absent
pub listed_stands : (before behind : Pairs) (tree : Sublist) (p : List Token) (id : ℕ) → IsIndexOf (before ++ ((id, p) ∷ behind)) tree → stands tree p id ≡ true
listed_stands before behind tree p id index = index.each p id ∙ here before
  where
    here : (es : Pairs) → listed (es ++ ((id, p) ∷ behind)) p id ≡ true
    here [] = or_left _ _ (pair_itself id p)
    here (e ∷ es) = or_right (e.0 == id && same_path e.1 p) _ (here es)
