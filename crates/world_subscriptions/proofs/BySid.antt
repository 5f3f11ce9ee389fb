-- The index by connection and sid: what each change of the list and of it keeps, and what it tells of a connection.
use Rattle.std.proofs.Common.{◌≡◌, ◌==◌, ◌<◌, ℕ, Bool, true, false, not, ◌&&◌, cond, List, [], ◌∷◌, ◌++◌, map, filter, length, Option, Some, None, MatchOption, Vec, refl, sym, ap, subst, ◌∙◌, inl, inr, arith, nat_eq}
use Rattle.std.specs.Prelude.{find}
use Rattle.std.specs.List.{list_any, AllByRecursion, IsDistinct}
use Rattle.std.specs.List.Sorted.{IsPermutation}
use Rattle.std.specs.Option.{option_map, is_some}
use Rattle.std.specs.Map.{lookup, keys_of, values_of}
use Rattle.std.specs.Cmp.Lexicographic.{pointwise}
use Rattle.std.specs.declared.alloc.Global.{Global}
use Rattle.std.proofs.lemmas.Bool.{cases_Bool, eqb-true, eq-eqb}
use Rattle.std.proofs.lemmas.Bool.Decides.{nat_tests}
use Rattle.std.proofs.lemmas.Cmp.{nat_list_eq_equiv}
use Rattle.std.proofs.lemmas.List.{length-map}
use Rattle.std.proofs.lemmas.List.Sorted.{length_permutation, list_any-IsPermutation}
use Rattle.std.proofs.lemmas.Map.Entries.{length-values_of}
use Rattle.world_rows.specs.declared.subscription.Subscription.{Subscription}
use Rattle.world_rows.specs.declared.ids.sids.Sids.{Sids}
use Rattle.world_rows.specs.ids.Sids.{Own, same_sid, own_of, id_in, id_under}
use Rattle.world_subscriptions.specs.BySid.{id_of, IsWith, IsWithout, IsWithoutAll, AreSidsOf}
use Rattle.world_subscriptions.specs.Changes.{only}
use Rattle.world_subscriptions.specs.Index.{ids_of}
use Rattle.world_subscriptions.specs.Kept.{NoneLike, Apart}
use Rattle.world_subscriptions.specs.Limit.{has_ended, unended}
use Rattle.world_subscriptions.specs.Subscriptions.{is_under, stands, of_connection}
use Rattle.world_subscriptions.specs.Counting.{is_one_of}
use Rattle.world_subscriptions.proofs.Shuffled.{Named, shuffled}
use Rattle.world_subscriptions.proofs.Indexed.{ids_above}
use Rattle.world_subscriptions.proofs.Apart.{Leaves, only-leaves, apart_mapped, under, under_other, or_left, or_right}

abbrev id : Subscription → ℕ
id s = s.id

-- ---- what stands under a connection and a sid

pub stands_by : (subs : List Subscription) (conn : ℕ) (sid : List ℕ) → is_some (id_of subs conn sid) ≡ stands subs conn sid
stands_by [] conn sid = refl
stands_by (s ∷ subs) conn sid = elim (cases_Bool (is_under conn sid s)) [
  | inl y ↦ rw y refl
  | inr n ↦ rw n (stands_by subs conn sid)
]

find_none : (p : Subscription → Bool) (subs : List Subscription) → list_any p subs ≡ false → find p subs ≡ None
find_none p [] h = refl
find_none p (s ∷ subs) h = rw (or_left (p s) (list_any p subs) h) (find_none p subs (or_right (p s) (list_any p subs) h))

find_last : (p : Subscription → Bool) (subs : List Subscription) (s : Subscription) → list_any p subs ≡ false → p s ≡ true → find p (subs ++ s ∷ []) ≡ Some s
find_last p [] s none is = rw is refl
find_last p (r ∷ subs) s none is = rw (or_left (p r) (list_any p subs) none) (find_last p subs s (or_right (p r) (list_any p subs) none) is)

find_before : (p : Subscription → Bool) (subs : List Subscription) (s : Subscription) → p s ≡ false → find p (subs ++ s ∷ []) ≡ find p subs
find_before p [] s is = rw is refl
find_before p (r ∷ subs) s is = elim (cases_Bool (p r)) [
  | inl y ↦ rw y refl
  | inr n ↦ rw n (find_before p subs s is)
]

none_passing : (p k : Subscription → Bool) (subs : List Subscription) → list_any p subs ≡ false → list_any p (filter k subs) ≡ false
none_passing p k [] h = refl
none_passing p k (s ∷ subs) h =
    let later = none_passing p k subs (or_right (p s) (list_any p subs) h) in
    elim (cases_Bool (k s)) [
      | inl y ↦ rw (y, or_left (p s) (list_any p subs) h) later
      | inr n ↦ rw n later
    ]

none_under : (conn : ℕ) (sid : List ℕ) (s : Subscription) (subs : List Subscription) → is_under conn sid s ≡ true → NoneLike s subs → stands subs conn sid ≡ false
none_under conn sid s [] is none = refl
none_under conn sid s (r ∷ subs) is none = rw (under_other conn sid s r is none.1) (none_under conn sid s subs is none.2)

-- ---- one more

module _ (subs : List Subscription) (s : Subscription) (free : stands subs s.conn s.sid ≡ false) where
  free_under : (conn : ℕ) (sid : List ℕ) → is_under conn sid s ≡ true → stands subs conn sid ≡ false
  free_under conn sid is = under (λ k bs. stands subs k bs ≡ false) conn sid s is free

  pub sids_added : (old new : Sids) → IsWith old s new → AreSidsOf subs old → AreSidsOf (subs ++ s ∷ []) new
  sids_added old new more index = record { each = λ conn sid. more conn sid ∙ here conn sid }
    where
      here : (conn : ℕ) (sid : List ℕ) → cond (is_under conn sid s) (Some s.id) (id_under old conn sid) ≡ id_of (subs ++ s ∷ []) conn sid
      here conn sid = elim (cases_Bool (is_under conn sid s)) [
        | inl y ↦ rw y (sym (ap (option_map id) (find_last (is_under conn sid) subs s (free_under conn sid y) y)))
        | inr n ↦ rw (n, index.each conn sid) (sym (ap (option_map id) (find_before (is_under conn sid) subs s n)))
      ]

  -- put in and taken out again
  pub sids_undone : (old mid new : Sids) → IsWith old s mid → IsWithout mid s new → AreSidsOf subs old → AreSidsOf subs new
  sids_undone old mid new more less index = record { each = λ conn sid. less conn sid ∙ here conn sid }
    where
      here : (conn : ℕ) (sid : List ℕ) → cond (is_under conn sid s) None (id_under mid conn sid) ≡ id_of subs conn sid
      here conn sid = elim (cases_Bool (is_under conn sid s)) [
        | inl y ↦ rw y (sym (ap (option_map id) (find_none (is_under conn sid) subs (free_under conn sid y))))
        | inr n ↦ rw n (more conn sid ∙ rw n (index.each conn sid))
      ]

-- ---- those that pass a test

found_kept : (k g : Subscription → Bool) → ((s : Subscription) → g s ≡ not (k s)) → (conn : ℕ) (sid : List ℕ) (subs : List Subscription) → Apart subs →
    find (is_under conn sid) (filter k subs) ≡ cond (stands (filter g subs) conn sid) None (find (is_under conn sid) subs)
unfolding Apart
found_kept k g other conn sid [] apart = refl
found_kept k g other conn sid (s ∷ subs) apart = elim (cases_Bool (is_under conn sid s)) [
  | inl u ↦
      let none = none_under conn sid s subs u apart.0 in
      elim (cases_Bool (k s)) [
        | inl y ↦ rw (other s, y, u, none_passing (is_under conn sid) g subs none) refl
        | inr n ↦ rw (other s, n, u) (find_none (is_under conn sid) (filter k subs) (none_passing (is_under conn sid) k subs none))
      ]
  | inr m ↦
      let later = found_kept k g other conn sid subs apart.1 in
      elim (cases_Bool (k s)) [
        | inl y ↦ rw (other s, y, m) later
        | inr n ↦ rw (other s, n, m) later
      ]
]

under_cond : (b : Bool) (o : Option Subscription) → cond b None (option_map id o) ≡ option_map id (cond b None o)
under_cond true o = refl
under_cond false o = refl

pub sids_kept : (k g : Subscription → Bool) → ((s : Subscription) → g s ≡ not (k s)) → (subs : List Subscription) (old new : Sids) → Apart subs → IsWithoutAll old (filter g subs) new → AreSidsOf subs old → AreSidsOf (filter k subs) new
sids_kept k g other subs old new apart less index = record {
  each = λ conn sid. less conn sid ∙ rw (index.each conn sid) (under_cond (stands (filter g subs) conn sid) (find (is_under conn sid) subs) ∙ sym (ap (option_map id) (found_kept k g other conn sid subs apart)));
}

-- ---- a change of one, by its id

same_ids : (f : Subscription → Subscription) (subs : List Subscription) (conn : ℕ) (sid : List ℕ) → Leaves f → id_of (map f subs) conn sid ≡ id_of subs conn sid
same_ids f [] conn sid same = refl
same_ids f (s ∷ subs) conn sid same =
    let alike : is_under conn sid (f s) ≡ is_under conn sid s = ap (λ n. (n == conn) && pointwise nat_eq (f s).sid sid) (same.conn s) ∙ ap (λ bs. (s.conn == conn) && pointwise nat_eq bs sid) (same.sid s) in
    ap (λ b. option_map id (cond b (Some (f s)) (find (is_under conn sid) (map f subs)))) alike ∙ here (is_under conn sid s) (same_ids f subs conn sid same)
  where
    here : (b : Bool) → id_of (map f subs) conn sid ≡ id_of subs conn sid
        → option_map id (cond b (Some (f s)) (find (is_under conn sid) (map f subs))) ≡ option_map id (cond b (Some s) (find (is_under conn sid) subs))
    here true later = ap (λ n. Some n) (same.id s)
    here false later = later

twice_not : (b : Bool) → b ≡ not (not b)
twice_not true = refl
twice_not false = refl

-- those that end by a change go
pub sids_ended : (f : Subscription → Subscription) (n : ℕ) (subs gone : List Subscription) (old new : Sids) → Leaves f → Apart subs → gone ≡ filter has_ended (map (only f n) subs)
    → IsWithoutAll old gone new → AreSidsOf subs old → AreSidsOf (unended (map (only f n) subs)) new
sids_ended f n subs gone old new same apart is less index =
    let changed = map (only f n) subs in
    sids_kept (λ s. not (has_ended s)) has_ended (λ s. twice_not (has_ended s)) changed old new (apart_mapped (only f n) subs (only-leaves f n same) apart)
    (subst (λ xs. IsWithoutAll old xs new) is less)
    (record { each = λ conn sid. index.each conn sid ∙ sym (same_ids (only f n) subs conn sid (only-leaves f n same)) })

-- ---- a connection that ends

abbrev the_none : Option Subscription
the_none = None

found_others : (conn c : ℕ) (sid : List ℕ) (subs : List Subscription) → find (is_under c sid) (filter (λ s. not (s.conn == conn)) subs) ≡ cond (conn == c) None (find (is_under c sid) subs)
found_others conn c sid [] = here (conn == c)
  where
    here : (b : Bool) → the_none ≡ cond b the_none the_none
    here true = refl
    here false = refl
found_others conn c sid (s ∷ subs) = by (s.conn == conn) (conn == c) refl refl (found_others conn c sid subs)
  where
    by : (t u : Bool) → (s.conn == conn) ≡ t → (conn == c) ≡ u → find (is_under c sid) (filter (λ s. not (s.conn == conn)) subs) ≡ cond u None (find (is_under c sid) subs)
        → find (is_under c sid) (filter (λ s. not (s.conn == conn)) (s ∷ subs)) ≡ cond u None (find (is_under c sid) (s ∷ subs))
    by true true et eu later = rw et later
    by true false et eu later =
        let other : (s.conn == c) ≡ false = grind (arith, nat_tests, et, eu) in
        rw (et, other) later
    by false true et eu later =
        let other : (s.conn == c) ≡ false = grind (arith, nat_tests, et, eu) in
        rw (et, other) later
    by false false et eu later = rw et (ap (λ o. cond (is_under c sid s) (Some s) o) later)

pub sids_closed : (conn : ℕ) (subs : List Subscription) (old new : Sids) → ((c : ℕ) (sid : List ℕ) → id_under new c sid ≡ cond (conn == c) None (id_under old c sid)) → AreSidsOf subs old
    → AreSidsOf (filter (λ s. not (s.conn == conn)) subs) new
sids_closed conn subs old new left index = record {
  each = λ c sid. left c sid ∙ rw (index.each c sid) (under_cond (conn == c) (find (is_under c sid) subs) ∙ sym (ap (option_map id) (found_others conn c sid subs)));
}

-- ---- the ids of a connection

-- the sids of subscriptions with their ids
abbrev named : List Subscription → Named
named subs = map (λ (s : Subscription). (s.sid, s.id)) subs

-- keys as what they hold
abbrev read : List (Vec ℕ Global × ℕ) → Named
read es = map (λ (e : Vec ℕ Global × ℕ). (e.0.items, e.1)) es

read-lookup : (sid : List ℕ) (es : List (Vec ℕ Global × ℕ)) → lookup (pointwise nat_eq sid) (read es) ≡ lookup (λ k. pointwise nat_eq sid k.items) es
read-lookup sid [] = refl
read-lookup sid (e ∷ es) = ap (λ o. cond (pointwise nat_eq sid e.0.items) (Some e.1) o) (read-lookup sid es)

read-distinct : (es : List (Vec ℕ Global × ℕ)) → IsDistinct same_sid (keys_of es) → IsDistinct (pointwise nat_eq) (keys_of (read es))
unfolding IsDistinct
read-distinct [] h = tt
read-distinct (e ∷ es) h = (all es h.0, read-distinct es h.1)
  where
    all : (fs : List (Vec ℕ Global × ℕ)) → AllByRecursion (λ y. same_sid e.0 y ≡ false) (keys_of fs) → AllByRecursion (λ y. pointwise nat_eq e.0.items y ≡ false) (keys_of (read fs))
    all [] h = tt
    all (f ∷ fs) h = (h.0, all fs h.1)

named-lookup : (conn : ℕ) (sid : List ℕ) (subs : List Subscription) → lookup (pointwise nat_eq sid) (named (of_connection conn subs)) ≡ id_of subs conn sid
named-lookup conn sid [] = refl
named-lookup conn sid (s ∷ subs) = elim (cases_Bool (s.conn == conn)) [
  | inl y ↦ rw (y, nat_list_eq_equiv.symm sid s.sid) (here (pointwise nat_eq s.sid sid) (named-lookup conn sid subs))
  | inr n ↦ rw n (named-lookup conn sid subs)
]
  where
    here : (b : Bool) → lookup (pointwise nat_eq sid) (named (of_connection conn subs)) ≡ id_of subs conn sid
        → cond b (Some s.id) (lookup (pointwise nat_eq sid) (named (of_connection conn subs))) ≡ option_map id (cond b (Some s) (find (is_under conn sid) subs))
    here true later = refl
    here false later = later

named-distinct : (conn : ℕ) (subs : List Subscription) → Apart subs → IsDistinct (pointwise nat_eq) (keys_of (named (of_connection conn subs)))
unfolding IsDistinct Apart
named-distinct conn [] apart = tt
named-distinct conn (s ∷ subs) apart = elim (cases_Bool (s.conn == conn)) [
  | inl y ↦ rw y (all subs apart.0 y, named-distinct conn subs apart.1)
  | inr n ↦ rw n (named-distinct conn subs apart.1)
]
  where
    differ : (r : Subscription) → (s.conn == conn) ≡ true → (r.conn == conn) ≡ true → is_under r.conn r.sid s ≡ false → pointwise nat_eq s.sid r.sid ≡ false
    differ r y z apart = rw (eq-eqb s.conn r.conn (eqb-true s.conn conn y ∙ sym (eqb-true r.conn conn z))) at apart

    all : (rs : List Subscription) → NoneLike s rs → (s.conn == conn) ≡ true → AllByRecursion (λ y. pointwise nat_eq s.sid y ≡ false) (keys_of (named (of_connection conn rs)))
    all [] none y = tt
    all (r ∷ rs) none y = elim (cases_Bool (r.conn == conn)) [
      | inl z ↦ rw z (differ r y z none.1, all rs none.2 y)
      | inr n ↦ rw n (all rs none.2 y)
    ]

values-read : (es : List (Vec ℕ Global × ℕ)) → values_of (read es) ≡ values_of es
values-read [] = refl
values-read (e ∷ es) = ap (λ (ids : List ℕ). e.1 ∷ ids) (values-read es)

values-named : (subs : List Subscription) → values_of (named subs) ≡ ids_of subs
values-named [] = refl
values-named (s ∷ subs) = ap (λ (ids : List ℕ). s.id ∷ ids) (values-named subs)

not_among : (s : Subscription) (ids : List ℕ) → AllByRecursion (λ x. s.id < x) ids → is_one_of ids s ≡ false
not_among s [] h = refl
not_among s (n ∷ ids) h =
    let other : (s.id == n) ≡ false = grind (arith, nat_tests, h.0) in
    rw other (not_among s ids h.1)

abbrev pub without : List ℕ → List Subscription → List Subscription
without ids subs = filter (λ (s : Subscription). not (is_one_of ids s)) subs

skip_first : (s : Subscription) (ids : List ℕ) (rs : List Subscription) → NoneLike s rs → without (s.id ∷ ids) rs ≡ without ids rs
skip_first s ids [] none = refl
skip_first s ids (r ∷ rs) none =
    let other : (r.id == s.id) ≡ false = grind (arith, nat_tests, none.0) in
    rw other (ap (λ (xs : List Subscription). cond (not (is_one_of ids r)) (r ∷ xs) xs) (skip_first s ids rs none.2))

-- the first is taken out, then the others
pub one_out : (n : ℕ) (ids : List ℕ) (subs : List Subscription) → without ids (filter (λ (s : Subscription). not (s.id == n)) subs) ≡ without (n ∷ ids) subs
one_out n ids [] = refl
one_out n ids (s ∷ subs) = elim (cases_Bool (s.id == n)) [
  | inl y ↦ rw y (one_out n ids subs)
  | inr m ↦ rw m (ap (λ (xs : List Subscription). cond (not (is_one_of ids s)) (s ∷ xs) xs) (one_out n ids subs))
]

pub none_out : (subs : List Subscription) → without [] subs ≡ subs
none_out [] = refl
none_out (s ∷ subs) = ap (λ (xs : List Subscription). s ∷ xs) (none_out subs)

ids_gone : (conn : ℕ) (subs : List Subscription) → Apart subs → without (ids_of (of_connection conn subs)) subs ≡ filter (λ (s : Subscription). not (s.conn == conn)) subs
unfolding Apart
ids_gone conn [] apart = refl
ids_gone conn (s ∷ subs) apart =
    let ids = ids_of (of_connection conn subs) in
    elim (cases_Bool (s.conn == conn)) [
      | inl y ↦
          let these : ids_of (of_connection conn (s ∷ subs)) ≡ s.id ∷ ids = rw y refl in
          ap (λ (is : List ℕ). without is (s ∷ subs)) these ∙ rw (eq-eqb s.id s.id refl, y) (skip_first s ids subs apart.0 ∙ ids_gone conn subs apart.1)
      | inr n ↦
          let these : ids_of (of_connection conn (s ∷ subs)) ≡ ids = rw n refl in
          ap (λ (is : List ℕ). without is (s ∷ subs)) these
          ∙ rw (n, not_among s ids (ids_above (λ r. r.conn == conn) s subs apart.0)) (ap (λ (xs : List Subscription). s ∷ xs) (ids_gone conn subs apart.1))
    ]

-- without the ids of those that fail a test, those are left that pass it
pub passing_left : (k : Subscription → Bool) (subs : List Subscription) → Apart subs → without (ids_of (filter (λ (s : Subscription). not (k s)) subs)) subs ≡ filter k subs
unfolding Apart
passing_left k [] apart = refl
passing_left k (s ∷ subs) apart =
    let ids = ids_of (filter (λ (r : Subscription). not (k r)) subs) in
    elim (cases_Bool (k s)) [
      | inl y ↦
          let these : ids_of (filter (λ (r : Subscription). not (k r)) (s ∷ subs)) ≡ ids = rw y refl in
          ap (λ (is : List ℕ). without is (s ∷ subs)) these
          ∙ rw (y, not_among s ids (ids_above (λ r. not (k r)) s subs apart.0)) (ap (λ (xs : List Subscription). s ∷ xs) (passing_left k subs apart.1))
      | inr n ↦
          let these : ids_of (filter (λ (r : Subscription). not (k r)) (s ∷ subs)) ≡ s.id ∷ ids = rw n refl in
          ap (λ (is : List ℕ). without is (s ∷ subs)) these ∙ rw (eq-eqb s.id s.id refl, n) (skip_first s ids subs apart.0 ∙ passing_left k subs apart.1)
    ]

none_of : (conn : ℕ) (subs : List Subscription) → ((sid : List ℕ) → None ≡ id_of subs conn sid) → of_connection conn subs ≡ []
none_of conn [] none = refl
none_of conn (s ∷ subs) none = elim (cases_Bool (s.conn == conn)) [
  | inl y ↦ let it : None ≡ Some s.id = rw (y, nat_list_eq_equiv.refl s.sid) at (none s.sid) in absurd (cc)
  | inr n ↦ rw n (none_of conn subs (λ sid. rw n at (none sid)))
]

all_others : (conn : ℕ) (subs : List Subscription) → of_connection conn subs ≡ [] → subs ≡ filter (λ (s : Subscription). not (s.conn == conn)) subs
all_others conn [] none = refl
all_others conn (s ∷ subs) none = elim (cases_Bool (s.conn == conn)) [
  | inl y ↦ let it : s ∷ of_connection conn subs ≡ [] = rw y at none in absurd (cc)
  | inr n ↦ rw n (ap (λ (xs : List Subscription). s ∷ xs) (all_others conn subs (rw n at none)))
]

-- a connection without a sid has no subscription
pub none_counted : (conn : ℕ) (subs : List Subscription) → ((sid : List ℕ) → None ≡ id_of subs conn sid) → 0 ≡ length (of_connection conn subs)
none_counted conn subs none = sym (ap (λ (xs : List Subscription). length xs) (none_of conn subs none))

pub none_gone : (conn : ℕ) (subs : List Subscription) → ((sid : List ℕ) → None ≡ id_of subs conn sid) → subs ≡ filter (λ (s : Subscription). not (s.conn == conn)) subs
none_gone conn subs none = all_others conn subs (none_of conn subs none)

module _ (conn : ℕ) (own : Own) (subs : List Subscription) (apart : Apart subs) (unique : IsDistinct same_sid (keys_of own.entries)) (are : (sid : List ℕ) → id_in (Some own) sid ≡ id_of subs conn sid) where
  -- a connection's ids are those of its subscriptions, in some order
  own_ids : IsPermutation (values_of own.entries) (ids_of (of_connection conn subs))
  own_ids =
      let pairs = shuffled (read own.entries) (named (of_connection conn subs)) (read-distinct own.entries unique) (named-distinct conn subs apart)
      (λ sid. read-lookup sid own.entries ∙ are sid ∙ sym (named-lookup conn sid subs)) in
      subst (λ ids. IsPermutation ids (ids_of (of_connection conn subs))) (values-read own.entries)
      (subst (λ ids. IsPermutation (values_of (read own.entries)) ids) (values-named (of_connection conn subs)) pairs)

  pub own_count : length own.entries ≡ length (of_connection conn subs)
  own_count = sym (length-values_of own.entries) ∙ sym (length_permutation _ _ own_ids) ∙ length-map (of_connection conn subs) id

  any_own : (s : Subscription) → is_one_of (values_of own.entries) s ≡ is_one_of (ids_of (of_connection conn subs)) s
  any_own s = list_any-IsPermutation (λ n. s.id == n) _ _ own_ids

  -- without the connection's ids no subscription of it is left
  pub own_gone : without (values_of own.entries) subs ≡ filter (λ (s : Subscription). not (s.conn == conn)) subs
  own_gone = replaced subs ∙ ids_gone conn subs apart
    where
      replaced : (rs : List Subscription) → without (values_of own.entries) rs ≡ without (ids_of (of_connection conn subs)) rs
      replaced [] = refl
      replaced (r ∷ rs) = ap (λ b. cond (not b) (r ∷ without (values_of own.entries) rs) (without (values_of own.entries) rs)) (any_own r)
          ∙ ap (λ (xs : List Subscription). cond (not (is_one_of (ids_of (of_connection conn subs)) r)) (r ∷ xs) xs) (replaced rs)

-- a connection has as many sids as subscriptions
pub counted_sids : (n conn : ℕ) (sids : Sids) (subs : List Subscription) → MatchOption (own_of sids conn) (n ≡ 0) (λ own. (n ≡ length own.entries) × IsDistinct same_sid (keys_of own.entries)) → Apart subs → AreSidsOf subs sids → n ≡ length (of_connection conn subs)
counted_sids n conn sids subs counted apart index = by (own_of sids conn) (index.each conn) counted
  where
    by : (o : Option Own) → ((sid : List ℕ) → id_in o sid ≡ id_of subs conn sid) → MatchOption o (n ≡ 0) (λ own. (n ≡ length own.entries) × IsDistinct same_sid (keys_of own.entries)) → n ≡ length (of_connection conn subs)
    by None are h = h ∙ none_counted conn subs are
    by (Some own) are h = h.0 ∙ own_count conn own subs apart h.1 are
