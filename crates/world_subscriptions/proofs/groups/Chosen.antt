-- Of each queue group one is chosen, whoever gathers its members.
use Rattle.std.proofs.Common.{◌≡◌, ◌∙◌, ◌==◌, ◌%◌, ◌^◌, ◌||◌, ℕ, Bool, true, false, cond, List, [], ◌∷◌, map, filter, length, Option, Some, None, slice_get, get_or, ap, sym, refl, subst, inl, inr, arith, Contains, ◌⊎◌, not, nat_lt}
use Rattle.std.specs.Prelude.{All, nat_eq, is_some}
use Rattle.std.specs.List.{list_any, filter_map, cons_option}
use Rattle.std.specs.Option.{option_map}
use Rattle.std.proofs.lemmas.Bool.{cases_Bool, cases_eq, false≢true, eqb-true, ltb-true, ltb-false}
use Rattle.std.proofs.lemmas.List.{length-map, get_or_default}
use Rattle.std.proofs.lemmas.List.Elements.{All-weaker, All-head, All-tail, All-contains_itself}
use Rattle.std.proofs.lemmas.List.Folds.{list_any_at}
use Rattle.std.proofs.lemmas.Option.{slice_get-map}
use Rattle.subjects.specs.Subject.{Token, text_of}
use Rattle.world_subscriptions.specs.declared.queue_choice.choice.Member.{Member}
use Rattle.world_subscriptions.specs.queue_choice.Choices.{name_of, names_of, same_name, group, chosen}
use Rattle.world_subscriptions.proofs.queue_choice.Names.{same-is, same-itself, any-names}
use Rattle.world_subscriptions.proofs.queue_choice.Law.{picked}
use Rattle.world_rows.specs.declared.subscription.Subscription.{Subscription}
use Rattle.world_subscriptions.specs.groups.Served.{is_named, is_member, members, is_the, is_served_by, is_served, served}
use Rattle.world_subscriptions.specs.groups.Chosen.{Rising, Named, named_by, named, named_member, is_queued, is_other, is_kept_alone, is_kept_by, is_kept, is_choice}

-- ---- lists

any-map : {X Y : Type 0} (p : Y → Bool) (f : X → Y) (xs : List X) → list_any p (map f xs) ≡ list_any (λ x. p (f x)) xs
any-map p f [] = refl
any-map p f (x ∷ xs) = ap (λ b. p (f x) || b) (any-map p f xs)

pub filter-map : {X Y : Type 0} (p : Y → Bool) (f : X → Y) (xs : List X) → filter p (map f xs) ≡ map f (filter (λ x. p (f x)) xs)
filter-map p f [] = refl
filter-map p f (x ∷ xs) = elim (cases_Bool (p (f x))) [
  | inl y ↦ rw y (ap (λ ys. f x ∷ ys) (filter-map p f xs))
  | inr e ↦ rw e (filter-map p f xs)
]

-- tests that agree wherever a third fails keep the same ones, where all fail it
pub same_where : {X : Type 0} (t p q : X → Bool) (xs : List X) → list_any t xs ≡ false → ((x : X) → t x ≡ false → p x ≡ q x) → filter p xs ≡ filter q xs
same_where t p q [] none same = refl
same_where t p q (x ∷ xs) none same = elim (cases_Bool (t x)) [
  | inl y ↦ absurd (false≢true (sym none ∙ ap (λ b. b || list_any t xs) y))
  | inr e ↦ ap (λ b. cond b (x ∷ filter p xs) (filter p xs)) (same x e) ∙ ap (λ l. cond (q x) (x ∷ l) l) (same_where t p q xs (rw e at none) same)
]

-- tests that agree keep the same ones
pub same_tests : {X : Type 0} (p q : X → Bool) (xs : List X) → ((x : X) → p x ≡ q x) → filter p xs ≡ filter q xs
same_tests p q [] same = refl
same_tests p q (x ∷ xs) same = ap (λ b. cond b (x ∷ filter p xs) (filter p xs)) (same x) ∙ ap (λ ys. cond (q x) (x ∷ ys) ys) (same_tests p q xs same)

-- and so do those that agree at each of the elements
same_on : {X : Type 0} (p q : X → Bool) (xs : List X) → All (λ x. p x ≡ q x) xs → filter p xs ≡ filter q xs
same_on p q [] same = refl
same_on p q (x ∷ xs) same =
    ap (λ b. cond b (x ∷ filter p xs) (filter p xs)) (All-head (λ y. p y ≡ q y) x xs same)
    ∙ ap (λ ys. cond (q x) (x ∷ ys) ys) (same_on p q xs (All-tail (λ y. p y ≡ q y) x xs same))

-- what some element passes, it passes too wherever that test leads to this one
pub any-weaker : {X : Type 0} (p q : X → Bool) (xs : List X) → ((x : X) → p x ≡ true → q x ≡ true) → list_any p xs ≡ true → list_any q xs ≡ true
any-weaker p q [] leads some = absurd (false≢true some)
any-weaker p q (x ∷ xs) leads some = elim (cases_Bool (p x)) [
  | inl y ↦ ap (λ b. b || list_any q xs) (leads x y)
  | inr e ↦ or-later (q x) (any-weaker p q xs leads (rw e at some))
]
  where
    or-later : (b : Bool) → list_any q xs ≡ true → (b || list_any q xs) ≡ true
    or-later true h = refl
    or-later false h = h

-- a test that one name alone passes, among names that have it
any-one : (g : List ℕ → Bool) (k : List ℕ) (ns : List (List ℕ)) → list_any (same_name k) ns ≡ true → ((n : List ℕ) → g n ≡ true → n ≡ k) → list_any g ns ≡ g k
any-one g k ns there alone = elim (cases_Bool (g k)) [
  | inl y ↦ any-weaker (same_name k) g ns (λ n same. subst (λ x. g x ≡ true) (same-is k n same) y) there ∙ sym y
  | inr e ↦ none ns e ∙ sym e
]
  where
    none : (xs : List (List ℕ)) → g k ≡ false → list_any g xs ≡ false
    none [] e = refl
    none (n ∷ xs) e = elim (cases_Bool (g n)) [
      | inl y ↦ absurd (false≢true (sym e ∙ ap g (sym (alone n y)) ∙ y))
      | inr f ↦ ap (λ b. b || list_any g xs) f ∙ none xs e
    ]

-- who is chosen, by a number that each has
pub chosen-map : {X Y : Type 0} (f : X → Y) (word : ℕ) (xs : List X) → option_map f (chosen word xs) ≡ chosen word (map f xs)
chosen-map f word xs =
    sym (slice_get-map f xs (word % 2 ^ 32 % length xs)) ∙ ap (λ n. slice_get (map f xs) (word % 2 ^ 32 % n)) (sym (length-map xs f))

-- ---- ids

-- where ids rise, an id is that of one alone
same_id : (xs : List Subscription) → Rising xs → (s t : Subscription) → Contains xs s → Contains xs t → s.id ≡ t.id → s ≡ t
same_id xs rising s t (i, si, es) (j, tj, et) e = here (cases_eq i j)
  where
    at-s : get_or xs i s ≡ s
    at-s = es

    at-t : get_or xs j s ≡ t
    at-t = get_or_default xs j s t tj ∙ et

    id-s : (get_or xs i s).id ≡ s.id
    id-s = ap (λ (x : Subscription). x.id) at-s

    id-t : (get_or xs j s).id ≡ t.id
    id-t = ap (λ (x : Subscription). x.id) at-t

    here : (i ≡ j) ⊎ (i ≡ j → ⊥) → s ≡ t
    here (inl same) = sym at-s ∙ ap (λ k. get_or xs k s) same ∙ at-t
    here (inr apart) = elim (cases_Bool (nat_lt i j)) [
      | inl y ↦ let h = rising i j s (ltb-true i j y) tj in absurd (omega (arith, h, id-s, id-t, e))
      | inr f ↦ let over = ltb-false i j f in let h = rising j i s (omega (arith, over, apart)) si in absurd (omega (arith, h, id-s, id-t, e))
    ]

abbrev pub id_of : Subscription → ℕ
id_of s = s.id

abbrev has_name : List ℕ → Named → Bool
has_name n p = same_name n p.0

-- a group is the same by the names and ids of its members
ids_of_group : (n : List ℕ) (ms : List Member) → map (λ (m : Member). m.id) (group n ms) ≡ map (λ (p : Named). p.1) (filter (has_name n) (map named_member ms))
ids_of_group n [] = refl
ids_of_group n (m ∷ ms) = elim (cases_Bool (same_name n (name_of m))) [
  | inl y ↦ rw y (ap (λ l. m.id ∷ l) (ids_of_group n ms))
  | inr e ↦ rw e (ids_of_group n ms)
]

ids_of_members : (n : List ℕ) (xs : List Subscription) → map id_of (members n xs) ≡ map (λ (p : Named). p.1) (filter (has_name n) (filter_map named xs))
ids_of_members n [] = refl
ids_of_members n (s ∷ xs) = here s.queue (ids_of_members n xs)
  where
    here : (o : Option (List Token)) → map id_of (members n xs) ≡ map (λ (p : Named). p.1) (filter (has_name n) (filter_map named xs)) →
        map id_of (cond (is_named n o) (s ∷ members n xs) (members n xs)) ≡ map (λ (p : Named). p.1) (filter (has_name n) (cons_option (named_by o s.id) (filter_map named xs)))
    here None later = later
    here (Some q) later = elim (cases_Bool (same_name n (text_of q))) [
      | inl y ↦ rw y (ap (λ l. s.id ∷ l) later)
      | inr e ↦ rw e later
    ]

abbrev pub is_id : ℕ → Option ℕ → Bool
is_id i None = false
is_id i (Some k) = k == i

the_id : (o : Option Subscription) (s : Subscription) → is_id s.id (option_map id_of o) ≡ is_the o s
the_id None s = refl
the_id (Some c) s = refl

-- a name of one of them is among their names
abbrev is_name : List ℕ → Option Named → Bool
is_name n None = false
is_name n (Some p) = has_name n p

named-any : (n : List ℕ) (xs : List Subscription) → list_any (has_name n) (filter_map named xs) ≡ list_any (λ s. is_name n (named s)) xs
named-any n [] = refl
named-any n (s ∷ xs) = here (named s) (named-any n xs)
  where
    here : (o : Option Named) → list_any (has_name n) (filter_map named xs) ≡ list_any (λ s. is_name n (named s)) xs →
        list_any (has_name n) (cons_option o (filter_map named xs)) ≡ (is_name n o || list_any (λ s. is_name n (named s)) xs)
    here None later = later
    here (Some p) later = ap (λ b. has_name n p || b) later

-- ---- the choice

module _ (xs : List Subscription) (rising : Rising xs) (ms : List Member) (are : map named_member ms ≡ filter_map named xs) (word : ℕ) (cs : List Member)
    (which : map Some cs ≡ map (λ name. chosen word (group name ms)) (names_of ms)) where
  abbrev chosen_id : List ℕ → Option ℕ
  chosen_id n = option_map id_of (chosen word (members n xs))

  same_chosen : (n : List ℕ) → option_map (λ (m : Member). m.id) (chosen word (group n ms)) ≡ chosen_id n
  same_chosen n =
      chosen-map (λ (m : Member). m.id) word (group n ms)
      ∙ ap (chosen word) (ids_of_group n ms ∙ ap (λ ps. map (λ (p : Named). p.1) (filter (has_name n) ps)) are ∙ sym (ids_of_members n xs))
      ∙ sym (chosen-map id_of word (members n xs))

  -- the ids of the choices are those that are chosen of each name
  any_chosen : (i : ℕ) → is_choice cs i ≡ list_any (λ n. is_id i (chosen_id n)) (names_of ms)
  any_chosen i =
      let has : Option Member → Bool = λ o. is_id i (option_map (λ (m : Member). m.id) o) in
      sym (any-map has Some cs)
      ∙ ap (list_any has) which
      ∙ any-map has (λ name. chosen word (group name ms)) (names_of ms)
      ∙ (λ j. list_any (λ n. is_id i (same_chosen n j)) (names_of ms))

  -- whoever is chosen of a name has that name
  of_name : (n : List ℕ) (s : Subscription) → Contains xs s → (q : List Token) → s.queue ≡ Some q → is_id s.id (chosen_id n) ≡ true → n ≡ text_of q
  of_name n s has q is met = here (chosen word (members n xs)) refl met
    where
      here : (o : Option Subscription) → chosen word (members n xs) ≡ o → is_id s.id (option_map id_of o) ≡ true → n ≡ text_of q
      here None e met = absurd (false≢true met)
      here (Some c) e met =
          let found = picked (is_member n) xs (word % 2 ^ 32 % length (members n xs)) c e in
          let same : c ≡ s = same_id xs rising c s found.1 has (eqb-true c.id s.id met) in
          let one : is_member n s ≡ true = subst (λ (x : Subscription). is_member n x ≡ true) same found.0 in
          same-is n (text_of q) (subst (λ o. is_named n o ≡ true) is one)

  there : (s : Subscription) → Contains xs s → (q : List Token) → s.queue ≡ Some q → list_any (same_name (text_of q)) (names_of ms) ≡ true
  there s (k, below, at) q is =
      any-names (text_of q) ms
      ∙ sym (any-map (has_name (text_of q)) named_member ms)
      ∙ ap (list_any (has_name (text_of q))) are
      ∙ named-any (text_of q) xs
      ∙ list_any_at (λ s. is_name (text_of q) (named s)) xs k s below
      (subst (λ (x : Subscription). is_name (text_of q) (named x) ≡ true) (sym at)
      (subst (λ o. is_name (text_of q) (named_by o s.id) ≡ true) (sym is) (same-itself (text_of q))))

  kept-served : (ids : List ℕ) → ((i : ℕ) → list_any (nat_eq i) ids ≡ is_choice cs i) → (s : Subscription) → Contains xs s → (o : Option (List Token)) → s.queue ≡ o →
      is_kept_by ids s.id o ≡ is_served_by word xs s o
  kept-served ids those s has None is = refl
  kept-served ids those s has (Some q) is =
      those s.id ∙ any_chosen s.id
      ∙ any-one (λ n. is_id s.id (chosen_id n)) (text_of q) (names_of ms) (there s has q is) (λ n met. of_name n s has q is met)
      ∙ the_id (chosen word (members (text_of q) xs)) s

-- what is kept by the ids of the choices are those that are served
pub kept_are : (xs : List Subscription) (ms cs : List Member) (ids : List ℕ) (word : ℕ) → Rising xs →
    map named_member ms ≡ filter_map named xs → map Some cs ≡ map (λ name. chosen word (group name ms)) (names_of ms) → ((i : ℕ) → list_any (nat_eq i) ids ≡ is_choice cs i) →
    filter (is_kept ids) xs ≡ served word xs
kept_are xs ms cs ids word rising are which those =
    same_on (is_kept ids) (is_served word xs) xs
    (All-weaker (Contains xs) (λ s. is_kept ids s ≡ is_served word xs s)
    (λ s has. kept-served xs rising ms are word cs which ids those s has s.queue refl)
    xs (All-contains_itself xs))

-- a test that all pass keeps all
pub all_pass : {X : Type 0} (xs : List X) → filter (λ x. true) xs ≡ xs
all_pass [] = refl
all_pass (x ∷ xs) = ap (λ l. x ∷ l) (all_pass xs)

-- where nobody has a queue, all are served
pub plain_are : (xs : List Subscription) (word : ℕ) → list_any is_queued xs ≡ false → xs ≡ served word xs
plain_are xs word none = sym (all_pass xs) ∙ same_where is_queued (λ s. true) (is_served word xs) xs none (λ s is. by s s.queue refl is)
  where
    by : (s : Subscription) (o : Option (List Token)) → s.queue ≡ o → is_some o ≡ false → true ≡ is_served_by word xs s s.queue
    by s None e is = sym (ap (is_served_by word xs s) e)
    by s (Some q) e is = absurd (false≢true (sym is))

-- two names that are not told apart are the same
not_other : (queue q : List Token) → is_other queue (Some q) ≡ false → same_name (text_of queue) (text_of q) ≡ true
not_other queue q e = elim (cases_Bool (same_name (text_of queue) (text_of q))) [
  | inl y ↦ y
  | inr n ↦ absurd (false≢true (sym e ∙ ap not n))
]

-- where there is one queue alone, its members are all that are of a group
alone_members : (queue : List Token) (xs : List Subscription) → list_any (λ s. is_other queue s.queue) xs ≡ false → members (text_of queue) xs ≡ filter is_queued xs
alone_members queue xs none = same_where (λ s. is_other queue s.queue) (is_member (text_of queue)) is_queued xs none (λ s e. by s.queue e)
  where
    by : (o : Option (List Token)) → is_other queue o ≡ false → is_named (text_of queue) o ≡ is_some o
    by None e = refl
    by (Some q) e = not_other queue q e

-- and the one that is chosen of them is served, and no other
pub alone_are : (queue : List Token) (xs : List Subscription) (word : ℕ) → list_any (λ s. is_other queue s.queue) xs ≡ false →
    filter (λ (s : Subscription). is_kept_alone (option_map id_of (chosen word (filter is_queued xs))) s.id s.queue) xs ≡ served word xs
alone_are queue xs word none =
    same_where (λ s. is_other queue s.queue) (λ (s : Subscription). is_kept_alone (option_map id_of (chosen word (filter is_queued xs))) s.id s.queue) (is_served word xs) xs none
    (λ s e. by s s.queue e)
  where
    kept : (o : Option Subscription) (s : Subscription) (q : List Token) → is_kept_alone (option_map id_of o) s.id (Some q) ≡ is_the o s
    kept None s q = refl
    kept (Some c) s q = refl

    by : (s : Subscription) (o : Option (List Token)) → is_other queue o ≡ false →
        is_kept_alone (option_map id_of (chosen word (filter is_queued xs))) s.id o ≡ is_served_by word xs s o
    by s None e = refl
    by s (Some q) e =
        kept (chosen word (filter is_queued xs)) s q
        ∙ ap (λ (ms : List Subscription). is_the (chosen word ms) s) (sym (alone_members queue xs none))
        ∙ ap (λ name. is_the (chosen word (members name xs)) s) (same-is (text_of queue) (text_of q) (not_other queue q e))
