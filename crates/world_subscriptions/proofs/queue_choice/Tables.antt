-- The groups of members that join one after the other.
use Rattle.std.proofs.Common.{◌≡◌, ◌∙◌, ◌≤◌, ℕ, suc, arith, drop, length, Bool, true, false, cond, not, ◌||◌, map, List, [], ◌∷◌, ◌++◌, ◌+◌, refl, sym, ap, subst, inl, inr, get_or, set}
use Rattle.std.specs.List.{list_any, position_or_len}
use Rattle.std.proofs.lemmas.List.{append-nil, map-append}
use Rattle.std.proofs.Math.ListN.{drop_of_length-le}
use Rattle.indexmap.specs.IndexSet.{insert_key}
use Rattle.std.proofs.lemmas.Bool.{cases_Bool, false≢true}
use Rattle.std.proofs.lemmas.List.Elements.{filter-append}
use Rattle.world_subscriptions.specs.declared.queue_choice.choice.Member.{Member}
use Rattle.world_subscriptions.specs.queue_choice.Choices.{name_of, names_of, same_name, group}
use Rattle.world_subscriptions.specs.queue_choice.Joined.{Table, joined, joined_all}
use Rattle.world_subscriptions.proofs.queue_choice.Names.{same-is, same-itself, same-turned, Once, added, names-more, once-names, any-names, nobody}

-- the groups of members
abbrev pub grouped : List Member → Table
grouped ms = (names_of ms, map (λ name. group name ms) (names_of ms))

-- where the group of one name gets a member more, and the others stay
module _ (G H : List ℕ → List Member) (k : List ℕ) (m : Member)
    (here : (n : List ℕ) → same_name k n ≡ true → H n ≡ G n ++ m ∷ [])
    (elsewhere : (n : List ℕ) → same_name k n ≡ false → H n ≡ G n) where
  stays : (ns : List (List ℕ)) → list_any (same_name k) ns ≡ false → map G ns ≡ map H ns
  stays [] none = refl
  stays (n ∷ ns) none = elim (cases_Bool (same_name k n)) [
    | inl y ↦ absurd (false≢true (sym none ∙ rw y refl))
    | inr e ↦ (λ i. sym (elsewhere n e) i ∷ stays ns (rw e at none) i)
  ]

  grows : (ns : List (List ℕ)) → Once ns → list_any (same_name k) ns ≡ true →
      set (map G ns) (position_or_len (same_name k) ns) (get_or (map G ns) (position_or_len (same_name k) ns) [] ++ m ∷ []) ≡ map H ns
  grows [] once some = absurd (false≢true some)
  grows (n ∷ ns) once some = elim (cases_Bool (same_name k n)) [
    | inl y ↦ rw y (λ i. sym (here n y) i ∷ stays ns (subst (λ x. list_any (same_name x) ns ≡ false) (sym (same-is k n y)) once.0) i)
    | inr e ↦ rw e (later (G n) (map G ns) (position_or_len (same_name k) ns) ∙ (λ i. sym (elsewhere n e) i ∷ grows ns once.1 (rw e at some) i))
  ]
    where
      later : (g : List Member) (gs : List (List Member)) (i : ℕ) → set (g ∷ gs) (1 + i) (get_or (g ∷ gs) (1 + i) [] ++ m ∷ []) ≡ g ∷ set gs i (get_or gs i [] ++ m ∷ [])
      later g gs i = let next : 1 + i ≡ suc i = omega arith in rw next refl

group-here : (ms : List Member) (m : Member) (n : List ℕ) → same_name (name_of m) n ≡ true → group n (ms ++ m ∷ []) ≡ group n ms ++ m ∷ []
group-here ms m n y =
    filter-append (λ x. same_name n (name_of x)) ms (m ∷ [])
    ∙ ap (λ b. group n ms ++ cond b (m ∷ []) []) (subst (λ x. same_name n x ≡ true) (sym (same-is (name_of m) n y)) (same-itself n))

group-elsewhere : (ms : List Member) (m : Member) (n : List ℕ) → same_name n (name_of m) ≡ false → group n (ms ++ m ∷ []) ≡ group n ms
group-elsewhere ms m n e =
    filter-append (λ x. same_name n (name_of x)) ms (m ∷ [])
    ∙ ap (λ b. group n ms ++ cond b (m ∷ []) []) e ∙ append-nil (group n ms)

-- the groups of one member more
one-more : (ms : List Member) (m : Member) → joined (grouped ms) m ≡ grouped (ms ++ m ∷ [])
one-more ms m = elim (cases_Bool (list_any (same_name (name_of m)) (names_of ms))) [
  | inl y ↦ rw y ((λ i. (names_of ms, old y i)) ∙ (λ i. (names (sym y) i, map after (names (sym y) i))))
  | inr e ↦ rw e ((λ i. (names_of ms ++ name_of m ∷ [], new e i)) ∙ (λ i. (names (sym e) i, map after (names (sym e) i))))
]
  where
    before : List ℕ → List Member
    before n = group n ms

    after : List ℕ → List Member
    after n = group n (ms ++ m ∷ [])

    names : {b : Bool} → b ≡ list_any (same_name (name_of m)) (names_of ms) → added b (names_of ms) (name_of m) ≡ names_of (ms ++ m ∷ [])
    names e = ap (λ b. added b (names_of ms) (name_of m)) e ∙ sym (names-more ms m)

    apart : (n : List ℕ) → same_name (name_of m) n ≡ false → after n ≡ before n
    apart n e = group-elsewhere ms m n (same-turned (name_of m) n e)

    old : list_any (same_name (name_of m)) (names_of ms) ≡ true →
        set (map before (names_of ms)) (position_or_len (same_name (name_of m)) (names_of ms)) (get_or (map before (names_of ms)) (position_or_len (same_name (name_of m)) (names_of ms)) [] ++ m ∷ []) ≡ map after (names_of ms)
    old y = grows before after (name_of m) m (group-here ms m) apart (names_of ms) (once-names ms) y

    new : list_any (same_name (name_of m)) (names_of ms) ≡ false → map before (names_of ms) ++ (m ∷ []) ∷ [] ≡ map after (names_of ms ++ name_of m ∷ [])
    new e =
        let alone : after (name_of m) ≡ m ∷ [] = group-here ms m (name_of m) (same-itself (name_of m)) ∙ ap (λ g. g ++ m ∷ []) (nobody (name_of m) ms (sym (any-names (name_of m) ms) ∙ e)) in
        (λ i. stays before after (name_of m) m (group-here ms m) apart (names_of ms) e i ++ sym alone i ∷ [])
        ∙ sym (map-append after (names_of ms) (name_of m ∷ []))

-- the groups of more members
more : (ms left : List Member) → joined_all (grouped ms) left ≡ grouped (ms ++ left)
more ms [] = ap grouped (sym (append-nil ms))
more ms (m ∷ left) = ap (λ t. joined_all t left) (one-more ms m) ∙ more (ms ++ m ∷ []) left ∙ ap grouped (append-one ms left)
  where
    append-one : (xs ys : List Member) → (xs ++ m ∷ []) ++ ys ≡ xs ++ m ∷ ys
    append-one [] ys = refl
    append-one (x ∷ xs) ys = ap (λ r. x ∷ r) (append-one xs ys)

-- where the members have joined in turn, the groups are theirs
pub all_joined : (t : Table) (ms : List Member) (i : ℕ) → length ms ≤ i → joined_all t (drop i ms) ≡ joined_all ([], []) ms → t.1 ≡ map (λ name. group name ms) (names_of ms)
all_joined t ms i past e = ap (λ (u : Table). u.1) (ap (joined_all t) (sym (drop_of_length-le ms past)) ∙ e ∙ more [] ms)

-- ---- names as the code finds them

module _ {X : Type 0} (f : X → List ℕ) where
  any-seen : (k : List ℕ) (xs : List X) → list_any (same_name k) (map f xs) ≡ list_any (λ x. same_name k (f x)) xs
  any-seen k [] = refl
  any-seen k (x ∷ xs) = ap (λ b. same_name k (f x) || b) (any-seen k xs)

  place-seen : (k : List ℕ) (xs : List X) → position_or_len (same_name k) (map f xs) ≡ position_or_len (λ x. same_name k (f x)) xs
  place-seen k [] = refl
  place-seen k (x ∷ xs) = ap (λ n. cond (not (same_name k (f x))) (1 + n) 0) (place-seen k xs)

  module _ (names after : List X) (key : X) (groups : List (List Member)) (m : Member) (is : f key ≡ name_of m)
      (keys : after ≡ insert_key (λ x y. same_name (f x) (f y)) names key) where
    there : (b : Bool) → list_any (λ x. same_name (f key) (f x)) names ≡ b → list_any (same_name (name_of m)) (map f names) ≡ b
    there b e = ap (λ k. list_any (same_name k) (map f names)) (sym is) ∙ any-seen (f key) names ∙ e

    -- a member of a new group
    pub joins_new : list_any (λ x. same_name (f key) (f x)) names ≡ false → (map f after, groups ++ (m ∷ []) ∷ []) ≡ joined (map f names, groups) m
    joins_new none = rw (there false none) (λ i. (seen i, groups ++ (m ∷ []) ∷ []))
      where
        seen : map f after ≡ map f names ++ name_of m ∷ []
        seen = ap (map f) (keys ∙ ap (λ b. cond b names (names ++ key ∷ [])) none) ∙ map-append f names (key ∷ []) ∙ ap (λ k. map f names ++ k ∷ []) is

    -- a member of a group that is there
    pub joins_old : list_any (λ x. same_name (f key) (f x)) names ≡ true → (place : ℕ) → place ≡ position_or_len (λ x. same_name (f key) (f x)) names
        → (map f after, set groups place (get_or groups place [] ++ m ∷ [])) ≡ joined (map f names, groups) m
    joins_old some place at = rw (there true some) (λ i. (ap (map f) (keys ∙ ap (λ b. cond b names (names ++ key ∷ [])) some) i, set groups (found i) (get_or groups (found i) [] ++ m ∷ [])))
      where
        found : place ≡ position_or_len (same_name (name_of m)) (map f names)
        found = at ∙ sym (place-seen (f key) names) ∙ ap (λ k. position_or_len (same_name k) (map f names)) is

-- what a new name tells of the names before it
pub absent : (is_new there : Bool) → is_new ≡ not there → is_new ≡ true → there ≡ false
absent is_new true told is = sym is ∙ told
absent is_new false told is = refl

pub present : (is_new there : Bool) → is_new ≡ not there → is_new ≡ false → there ≡ true
present is_new true told is = refl
present is_new false told is = sym is ∙ told
