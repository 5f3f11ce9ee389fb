-- The trees of the accounts as the index of a list: what each change keeps, and what is found by them.
use Rattle.std.proofs.Common.{◌≡◌, ◌==◌, ◌<◌, ℕ, Bool, true, false, true≢false, not, ◌&&◌, ◌||◌, cond, List, [], ◌∷◌, ◌++◌, map, filter, Option, Some, None, MatchOption, Less, refl, sym, ap, subst, ◌∙◌, inl, inr, arith}
use Rattle.std.proofs.Common.{◌+◌, nat_lt}
use Rattle.std.specs.Prelude.{find, All}
use Rattle.std.specs.List.{AllByRecursion}
use Rattle.std.specs.List.Sorted.{IsStrictlySortedBy}
use Rattle.std.specs.Map.{lookup, set_value, remove_entry, values_of, keys_of}
use Rattle.std.specs.Ordering.{nat_cmp}
use Rattle.std.proofs.Math.Bool.{or-false, and-false}
use Rattle.std.proofs.lemmas.Bool.{cases_Bool, both_ways, eqb-true, eq-eqb, and_parts}
use Rattle.std.proofs.lemmas.Bool.Decides.{nat_tests}
use Rattle.std.proofs.lemmas.List.Folds.{list_any-append}
use Rattle.std.proofs.lemmas.List.Elements.{recursion_from_All}
use Rattle.subjects.specs.Subject.{Token, same_token, in_set}
use Rattle.sublist.specs.Tree.{same_path}
use Rattle.sublist.specs.Pairs as pairs
use Rattle.world_rows.specs.declared.subscription.Subscription.{Subscription}
use Rattle.world_rows.specs.declared.ids.trees.Trees.{Trees}
use Rattle.world_rows.specs.ids.Trees.{holds, IsSame, IsIndexOf}
use Rattle.world_subscriptions.specs.Changes.{is_id, bumped, capped}
use Rattle.world_subscriptions.specs.Index.{is_of, listed, IsWith, IsWithout, IsWithoutAll, AreIndexesOf, ids_of, if_any, found_by}
use Rattle.world_subscriptions.specs.Kept.{IsAbove, IsKept, NoneLike, Apart}
use Rattle.world_subscriptions.specs.Limit.{has_ended}
use Rattle.world_subscriptions.specs.Subscriptions.{having}
use Rattle.world_subscriptions.proofs.Apart.{none_kept}
use Rattle.world_rows.proofs.Places.{Changes, test_is}
use Rattle.world_subscriptions.proofs.Entries.{Entries, lookup_set}

no_id : (s : Subscription) (a : List ℕ) (p : List Token) (i : ℕ) → (s.id == i) ≡ false → is_of s a p i ≡ false
no_id s a p i n = rw n (and-false (same_token s.account a))

its_id : (s : Subscription) (a : List ℕ) (p : List Token) (i : ℕ) → is_of s a p i ≡ true → s.id ≡ i
its_id s a p i y = eqb-true s.id i (and_parts (s.id == i) (same_path s.subject p) (and_parts (same_token s.account a) _ y).1).0

-- ---- one more

-- what is put in and taken out again
undone : (x m : Bool) → (m ≡ true → x ≡ false) → ((x || m) && not m) ≡ x
undone true true h = sym (h refl)
undone false true h = refl
undone true false h = refl
undone false false h = refl

none_above : (n : ℕ) (subs : List Subscription) (a : List ℕ) (p : List Token) → AllByRecursion (λ (x : Subscription). x.id < n) subs → listed subs a p n ≡ false
none_above n [] a p h = refl
none_above n (s ∷ subs) a p h =
    let apart : (s.id == n) ≡ false = grind (arith, nat_tests, h.0) in
    rw (no_id s a p n apart) (none_above n subs a p h.1)

pub indexes_added : (subs : List Subscription) (s : Subscription) (old new : Trees) → IsWith old s new → AreIndexesOf subs old → AreIndexesOf (subs ++ s ∷ []) new
indexes_added subs s old new more index = record {
  each = λ a p i. more a p i ∙ (rw (index.each a p i) (sym (list_any-append (λ (x : Subscription). is_of x a p i) subs (s ∷ []) ∙ ap (λ b. listed subs a p i || b) (or-false (is_of s a p i)))));
}

pub indexes_undone : (subs : List Subscription) (s : Subscription) (old mid new : Trees) → All (λ (x : Subscription). x.id < s.id) subs → IsWith old s mid → IsWithout mid s new → AreIndexesOf subs old → AreIndexesOf subs new
indexes_undone subs s old mid new below more less index = record {
  each = λ a p i. less a p i ∙ (rw (more a p i, index.each a p i) (undone (listed subs a p i) (is_of s a p i)
      (λ y. subst (λ n. listed subs a p n ≡ false) (its_id s a p i y) (none_above s.id subs a p (recursion_from_All _ subs below)))));
}

-- ---- those that pass a test

none_listed : (s : Subscription) (subs : List Subscription) (a : List ℕ) (p : List Token) → NoneLike s subs → listed subs a p s.id ≡ false
none_listed s [] a p none = refl
none_listed s (r ∷ subs) a p none =
    let apart : (r.id == s.id) ≡ false = grind (arith, nat_tests, none.0) in
    rw (no_id r a p s.id apart) (none_listed s subs a p none.2)

kept_head : (m l f : Bool) → (m ≡ true → f ≡ false) → (m || (l && not f)) ≡ ((m || l) && not f)
kept_head true l f h = rw (h refl) refl
kept_head false l f h = refl

dropped_head : (m l f : Bool) → (m ≡ true → l ≡ false) → (l && not f) ≡ ((m || l) && not (m || f))
dropped_head true l f h = rw (h refl) refl
dropped_head false l f h = refl

listed_kept : (k : Subscription → Bool) (subs : List Subscription) (a : List ℕ) (p : List Token) (i : ℕ) → Apart subs → listed (filter k subs) a p i ≡ (listed subs a p i && not (listed (filter (λ s. not (k s)) subs) a p i))
unfolding Apart
listed_kept k [] a p i apart = refl
listed_kept k (s ∷ subs) a p i apart =
    let later = listed_kept k subs a p i apart.1 in
    elim (cases_Bool (k s)) [
      | inl y ↦ rw (y, later) (kept_head (is_of s a p i) (listed subs a p i) (listed (filter (λ x. not (k x)) subs) a p i)
          (λ m. subst (λ n. listed (filter (λ x. not (k x)) subs) a p n ≡ false) (its_id s a p i m) (none_listed s (filter (λ x. not (k x)) subs) a p (none_kept (λ x. not (k x)) s subs apart.0))))
      | inr n ↦ rw (n, later) (dropped_head (is_of s a p i) (listed subs a p i) (listed (filter (λ x. not (k x)) subs) a p i)
          (λ m. subst (λ n. listed subs a p n ≡ false) (its_id s a p i m) (none_listed s subs a p apart.0)))
    ]

pub indexes_kept : (k : Subscription → Bool) (subs : List Subscription) (old new : Trees) → Apart subs → IsWithoutAll old (filter (λ s. not (k s)) subs) new → AreIndexesOf subs old → AreIndexesOf (filter k subs) new
indexes_kept k subs old new apart less index = record {
  each = λ a p i. less a p i ∙ rw (index.each a p i) (sym (listed_kept k subs a p i apart));
}

-- ---- a change of one, by its id

pub bumped-is_of : (s : Subscription) (a : List ℕ) (p : List Token) (i : ℕ) → is_of (bumped s) a p i ≡ is_of s a p i
bumped-is_of s a p i = here (nat_lt s.received 18446744073709551615)
  where
    here : (b : Bool) → is_of (cond b (record s { received = s.received + 1 }) s) a p i ≡ is_of s a p i
    here true = refl
    here false = refl

pub capped-is_of : (most : Option ℕ) (s : Subscription) (a : List ℕ) (p : List Token) (i : ℕ) → is_of (capped most s) a p i ≡ is_of s a p i
capped-is_of most s a p i = refl

found_id : (id : ℕ) (es : Entries) (s : Subscription) → IsKept es → lookup (is_id id) es ≡ Some s → s.id ≡ id
unfolding IsKept
found_id id [] s kept found = cc
found_id id (e ∷ es) s kept found = elim (cases_Bool (is_id id e.0)) [
  | inl y ↦
      let here : Some e.1 ≡ Some s = rw y at found in
      let same : e.1 ≡ s = cc in
      sym (ap (λ (x : Subscription). x.id) same) ∙ (kept.0 ∙ eqb-true e.0 id (sym (test_is id e.0) ∙ y))
  | inr n ↦ found_id id es s kept.3 (rw n at found)
]

not_above : (n : ℕ) (es : Entries) (a : List ℕ) (p : List Token) → IsKept es → IsAbove n es → listed (values_of es) a p n ≡ false
unfolding IsKept IsAbove
not_above n [] a p kept above = refl
not_above n (e ∷ es) a p kept above =
    let apart : (e.1.id == n) ≡ false = grind (arith, nat_tests, above.0, kept.0) in
    rw (no_id e.1 a p n apart) (not_above n es a p kept.3 above.1)

module _ (id : ℕ) (w s : Subscription) (same : (a : List ℕ) (p : List Token) (i : ℕ) → is_of w a p i ≡ is_of s a p i) where
  set_listed : (es : Entries) → lookup (is_id id) es ≡ Some s → (a : List ℕ) (p : List Token) (i : ℕ) → listed (values_of (set_value (is_id id) es w)) a p i ≡ listed (values_of es) a p i
  set_listed [] found a p i = cc
  set_listed (e ∷ es) found a p i = elim (cases_Bool (is_id id e.0)) [
    | inl y ↦
        let here : Some e.1 ≡ Some s = rw y at found in
        let it : e.1 ≡ s = cc in
        rw (y, same a p i, it) refl
    | inr n ↦ rw n (ap (λ b. is_of e.1 a p i || b) (set_listed es (rw n at found) a p i))
  ]

  taken : (m l : Bool) → (m ≡ true → l ≡ false) → l ≡ ((m || l) && not m)
  taken true l h = h refl
  taken false l h = sym (and_true l)
    where
      and_true : (b : Bool) → (b && true) ≡ b
      and_true true = refl
      and_true false = refl

  stays : (e m l : Bool) → (e ≡ true → m ≡ false) → (e || (l && not m)) ≡ ((e || l) && not m)
  stays true m l h = rw (h refl) refl
  stays false m l h = refl

  removed_listed : (es : Entries) → IsKept es → lookup (is_id id) es ≡ Some s → (a : List ℕ) (p : List Token) (i : ℕ)
      → listed (values_of (remove_entry (is_id id) (set_value (is_id id) es w))) a p i ≡ (listed (values_of es) a p i && not (is_of w a p i))
  unfolding IsKept
  removed_listed [] kept found a p i = cc
  removed_listed (e ∷ es) kept found a p i = elim (cases_Bool (is_id id e.0)) [
    | inl y ↦
        let here : Some e.1 ≡ Some s = rw y at found in
        let it : e.1 ≡ s = cc in
        let alike : is_of w a p i ≡ is_of e.1 a p i = same a p i ∙ ap (λ (x : Subscription). is_of x a p i) (sym it) in
        rw (y, y, alike) (taken (is_of e.1 a p i) (listed (values_of es) a p i)
        (λ m. subst (λ n. listed (values_of es) a p n ≡ false) (sym kept.0 ∙ its_id e.1 a p i m) (not_above e.0 es a p kept.3 kept.2)))
    | inr n ↦
        let later = removed_listed es kept.3 (rw n at found) a p i in
        rw (n, n, later) (stays (is_of e.1 a p i) (is_of w a p i) (listed (values_of es) a p i)
        (λ m. same a p i ∙ no_id s a p i (other e.0 i (found_id id es s kept.3 (rw n at found)) (sym kept.0 ∙ its_id e.1 a p i m) (sym (test_is id e.0) ∙ n))))
  ]
    where
      other : (k i : ℕ) → s.id ≡ id → k ≡ i → (k == id) ≡ false → (s.id == i) ≡ false
      other k i is ki n = elim (cases_Bool (s.id == i)) [
        | inl y ↦ absurd (both_ways (k == id) n (eq-eqb k id (ki ∙ (sym (eqb-true s.id i y) ∙ is))))
        | inr m ↦ m
      ]

module _ (f : Subscription → Subscription) (leaves : (s : Subscription) (a : List ℕ) (p : List Token) (i : ℕ) → is_of (f s) a p i ≡ is_of s a p i)
    (id : ℕ) (es new : Entries) (kept : IsKept es) (ended : Bool) (trees : Trees) (index : AreIndexesOf (values_of es) trees) where
  pub indexes_on : Changes f id es new ended → ended ≡ false → AreIndexesOf (values_of new) trees
  indexes_on h is = by (lookup (is_id id) es) refl h
    where
      by : (o : Option Subscription) → lookup (is_id id) es ≡ o → MatchOption o ((new ≡ es) × (ended ≡ false)) (λ s. (new ≡ set_value (is_id id) es (f s)) × (ended ≡ has_ended (f s))) → AreIndexesOf (values_of new) trees
      by None e h = subst (λ (xs : Entries). AreIndexesOf (values_of xs) trees) (sym h.0) index
      by (Some s) e h = subst (λ (xs : Entries). AreIndexesOf (values_of xs) trees) (sym h.0) (record { each = λ a p i. index.each a p i ∙ sym (set_listed id (f s) s (leaves s) es e a p i) })

  pub indexes_over : (after : Trees) → Changes f id es new ended → ended ≡ true → MatchOption (lookup (is_id id) new) (IsSame trees after) (λ sub. IsWithout trees sub after) → AreIndexesOf (values_of (remove_entry (is_id id) new)) after
  indexes_over after h is out = by (lookup (is_id id) es) refl h
    where
      by : (o : Option Subscription) → lookup (is_id id) es ≡ o → MatchOption o ((new ≡ es) × (ended ≡ false)) (λ s. (new ≡ set_value (is_id id) es (f s)) × (ended ≡ has_ended (f s))) → AreIndexesOf (values_of (remove_entry (is_id id) new)) after
      by None e h = absurd (true≢false (sym is ∙ h.1))
      by (Some s) e h =
          let there : lookup (is_id id) new ≡ Some (f s) = ap (λ (xs : Entries). lookup (is_id id) xs) h.0 ∙ lookup_set id es (f s) s e in
          let less : IsWithout trees (f s) after = subst (λ o. MatchOption o (IsSame trees after) (λ sub. IsWithout trees sub after)) there out in
          subst (λ (xs : Entries). AreIndexesOf (values_of (remove_entry (is_id id) xs)) after) (sym h.0)
          (record { each = λ a p i. less a p i ∙ rw (index.each a p i) (sym (removed_listed id (f s) s (leaves s) es kept e a p i)) })

-- ---- one taken out by its id

none_of_id : (id : ℕ) (es : Entries) → IsKept es → IsAbove id es → filter (λ (s : Subscription). not (not (s.id == id))) (values_of es) ≡ []
unfolding IsKept IsAbove
none_of_id id [] kept above = refl
none_of_id id (e ∷ es) kept above =
    let other : (e.1.id == id) ≡ false = grind (arith, nat_tests, above.0, kept.0) in
    rw other (none_of_id id es kept.3 above.1)

one_of_id : (id : ℕ) (es : Entries) → IsKept es → filter (λ (s : Subscription). not (not (s.id == id))) (values_of es) ≡ if_any (lookup (is_id id) es)
unfolding IsKept
one_of_id id [] kept = refl
one_of_id id (e ∷ es) kept = elim (cases_Bool (is_id id e.0)) [
  | inl y ↦
      let key : e.0 ≡ id = eqb-true e.0 id (sym (test_is id e.0) ∙ y) in
      rw (y, eq-eqb e.1.id id (kept.0 ∙ key)) (ap (λ (xs : List Subscription). e.1 ∷ xs) (none_of_id id es kept.3 (subst (λ n. IsAbove n es) key kept.2)))
  | inr n ↦
      let other : (e.1.id == id) ≡ false = ap (λ k. k == id) kept.0 ∙ sym (test_is id e.0) ∙ n in
      rw (n, other) (one_of_id id es kept.3)
]

-- the one of an id, or none
pub those_of_id : (id : ℕ) (es : Entries) → IsKept es → filter (λ (s : Subscription). s.id == id) (values_of es) ≡ if_any (lookup (is_id id) es)
those_of_id id es kept = twice (values_of es) ∙ one_of_id id es kept
  where
    here : (b : Bool) (s : Subscription) (xs ys : List Subscription) → xs ≡ ys → cond b (s ∷ xs) xs ≡ cond (not (not b)) (s ∷ ys) ys
    here true s xs ys e = ap (λ zs. s ∷ zs) e
    here false s xs ys e = e

    twice : (subs : List Subscription) → filter (λ (s : Subscription). s.id == id) subs ≡ filter (λ (s : Subscription). not (not (s.id == id))) subs
    twice [] = refl
    twice (s ∷ subs) = here (s.id == id) s _ _ (twice subs)

pub indexes_without : (id : ℕ) (es : Entries) (old new : Trees) → IsKept es → Apart (values_of es) → MatchOption (lookup (is_id id) es) (IsSame old new) (λ sub. IsWithout old sub new)
    → AreIndexesOf (values_of es) old → AreIndexesOf (filter (λ (s : Subscription). not (s.id == id)) (values_of es)) new
indexes_without id es old new kept apart out index =
    indexes_kept (λ s. not (s.id == id)) (values_of es) old new apart (subst (λ xs. IsWithoutAll old xs new) (sym (one_of_id id es kept)) (by (lookup (is_id id) es) out)) index
  where
    and_true : (b : Bool) → b ≡ (b && true)
    and_true true = refl
    and_true false = refl

    by : (o : Option Subscription) → MatchOption o (IsSame old new) (λ sub. IsWithout old sub new) → IsWithoutAll old (if_any o) new
    by None h = λ a p i. h a p i ∙ and_true (holds old a p i)
    by (Some s) h = λ a p i. h a p i ∙ rw (or-false (is_of s a p i)) refl

-- ---- what is found

-- the pairs of an account's subscriptions
abbrev pub pairs_of : List ℕ → List Subscription → pairs.Pairs
pairs_of a subs = map (λ (s : Subscription). (s.id, s.subject)) (filter (λ (s : Subscription). same_token s.account a) subs)

pairs_listed : (a : List ℕ) (subs : List Subscription) (p : List Token) (i : ℕ) → pairs.listed (pairs_of a subs) p i ≡ listed subs a p i
pairs_listed a [] p i = refl
pairs_listed a (s ∷ subs) p i = elim (cases_Bool (same_token s.account a)) [
  | inl y ↦ rw y (ap (λ b. (s.id == i && same_path s.subject p) || b) (pairs_listed a subs p i))
  | inr n ↦ rw n (pairs_listed a subs p i)
]

less_from : (x y : ℕ) → x < y → nat_cmp x y ≡ Less
less_from x y h = grind (arith, nat_tests)

pairs_above : (a : List ℕ) (s : Subscription) (subs : List Subscription) → NoneLike s subs → AllByRecursion (λ y. nat_cmp s.id y ≡ Less) (keys_of (pairs_of a subs))
pairs_above a s [] none = tt
pairs_above a s (r ∷ subs) none = elim (cases_Bool (same_token r.account a)) [
  | inl y ↦ rw y (less_from s.id r.id none.0, pairs_above a s subs none.2)
  | inr n ↦ rw n (pairs_above a s subs none.2)
]

pairs_rise : (a : List ℕ) (subs : List Subscription) → Apart subs → IsStrictlySortedBy nat_cmp (keys_of (pairs_of a subs))
unfolding IsStrictlySortedBy Apart
pairs_rise a [] apart = tt
pairs_rise a (s ∷ subs) apart = elim (cases_Bool (same_token s.account a)) [
  | inl y ↦ rw y (pairs_above a s subs apart.0, pairs_rise a subs apart.1)
  | inr n ↦ rw n (pairs_rise a subs apart.1)
]

pub pairs_matching : (a : List ℕ) (subject : List Token) (subs : List Subscription) → pairs.matching_ids (pairs_of a subs) subject ≡ ids_of (having a subject subs)
pairs_matching a subject [] = refl
pairs_matching a subject (s ∷ subs) = elim (cases_Bool (same_token s.account a)) [
  | inl y ↦ elim (cases_Bool (in_set s.subject subject)) [
    | inl z ↦ rw (y, z) (ap (λ (ids : List ℕ). s.id ∷ ids) (pairs_matching a subject subs))
    | inr z ↦ rw (y, z) (pairs_matching a subject subs)
  ]
  | inr n ↦ rw n (pairs_matching a subject subs)
]

-- what the trees hold of an account are the pairs of its subscriptions
pub account_index : (a : List ℕ) (subs : List Subscription) (trees : Trees) → Apart subs → AreIndexesOf subs trees → IsIndexOf (pairs_of a subs) a trees
account_index a subs trees apart index = record { ascending = pairs_rise a subs apart; each = λ p i. index.each a p i ∙ sym (pairs_listed a subs p i) }

-- ---- by their ids

skipped : (s : Subscription) (subs : List Subscription) (ids : List ℕ) → AllByRecursion (λ x. s.id < x) ids → found_by (s ∷ subs) ids ≡ found_by subs ids
skipped s subs [] h = refl
skipped s subs (x ∷ ids) h =
    let apart : (s.id == x) ≡ false = grind (arith, nat_tests, h.0) in
    rw (apart, skipped s subs ids h.1) refl

pub ids_above : (k : Subscription → Bool) (s : Subscription) (subs : List Subscription) → NoneLike s subs → AllByRecursion (λ x. s.id < x) (ids_of (filter k subs))
ids_above k s [] none = tt
ids_above k s (r ∷ subs) none = elim (cases_Bool (k r)) [
  | inl y ↦ rw y (none.0, ids_above k s subs none.2)
  | inr n ↦ rw n (ids_above k s subs none.2)
]

-- the subscriptions of a filter's ids are the filter
pub found_by_ids : (k : Subscription → Bool) (subs : List Subscription) → Apart subs → found_by subs (ids_of (filter k subs)) ≡ filter k subs
unfolding Apart
found_by_ids k [] apart = refl
found_by_ids k (s ∷ subs) apart =
    let later = skipped s subs (ids_of (filter k subs)) (ids_above k s subs apart.0) ∙ found_by_ids k subs apart.1 in
    elim (cases_Bool (k s)) [
      | inl y ↦ rw (y, eq-eqb s.id s.id refl) (ap (λ (rest : List Subscription). s ∷ rest) later)
      | inr n ↦ rw n later
    ]

-- the first of them, and the others behind
pub found_first : (subs : List Subscription) (id : ℕ) (ids : List ℕ) → found_by subs (id ∷ ids) ≡ found_by subs (id ∷ []) ++ found_by subs ids
found_first subs id ids = here (find (λ (s : Subscription). s.id == id) subs)
  where
    here : (o : Option Subscription) → if_any o ++ found_by subs ids ≡ (if_any o ++ []) ++ found_by subs ids
    here None = refl
    here (Some s) = refl
