-- Of each group one is chosen.
use Rattle.std.proofs.Common.{◌≡◌, ◌∙◌, ℕ, zero, suc, Bool, true, false, filter, length, map, drop, List, [], ◌∷◌, Option, None, Some, slice_get, get_or, refl, sym, ap, subst, inl, inr, arith, Contains}
use Rattle.std.specs.List.{list_any, All}
use Rattle.std.specs.Option.{unwrap_or}
use Rattle.std.proofs.lemmas.Bool.{cases_Bool, false≢true}
use Rattle.std.proofs.lemmas.List.Elements.{All-cons}
use Rattle.std.proofs.lemmas.List.Folds.{list_any-from_Any}
use Rattle.world_subscriptions.specs.declared.queue_choice.choice.Member.{Member}
use Rattle.world_subscriptions.specs.queue_choice.Choices.{name_of, names_of, same_name, group, chosen, IsOneOfEach}
use Rattle.world_subscriptions.proofs.queue_choice.Names.{same-is, same-itself, Once, once-names, any-names}

-- what stands at a place of a filter passes the test, and stands in the list
pub picked : {X : Type 0} (p : X → Bool) (xs : List X) (i : ℕ) (x : X) → slice_get (filter p xs) i ≡ Some x → (p x ≡ true) × Contains xs x
picked p [] i x e = absurd (cc)
picked p (y ∷ xs) i x e = elim (cases_Bool (p y)) [
  | inl t ↦ here t i (λ j at. picked p xs j x at) (rw t at e)
  | inr f ↦ later (picked p xs i x (rw f at e))
]
  where
    later : (p x ≡ true) × Contains xs x → (p x ≡ true) × Contains (y ∷ xs) x
    later h = (h.0, (suc h.1.0, omega (arith, h.1.1), h.1.2))

    here : p y ≡ true → (j : ℕ) → ((k : ℕ) → slice_get (filter p xs) k ≡ Some x → (p x ≡ true) × Contains xs x)
        → slice_get (y ∷ filter p xs) j ≡ Some x → (p x ≡ true) × Contains (y ∷ xs) x
    here t zero rest at = let is : y ≡ x = ap (λ o. unwrap_or o y) at in (subst (λ z. p z ≡ true) is t, (0, omega arith, is))
    here t (suc j) rest at = later (rest j at)

-- the first of two lists that are equal, and the others
first-is : (c : Member) (cs : List Member) (o : Option Member) (os : List (Option Member)) → map Some (c ∷ cs) ≡ o ∷ os → o ≡ Some c
first-is c cs o os e = sym (ap (λ l. get_or l 0 None) e)

rest-is : (c : Member) (cs : List Member) (o : Option Member) (os : List (Option Member)) → map Some (c ∷ cs) ≡ o ∷ os → map Some cs ≡ os
rest-is c cs o os e = ap (drop 1) e

module _ (ms : List Member) (word : ℕ) where
  -- who is chosen of a name's group
  abbrev chosen_of : List ℕ → Option Member
  chosen_of n = chosen word (group n ms)

  -- the names of the choices are the groups' names
  names-chosen : (cs : List Member) (ns : List (List ℕ)) → map Some cs ≡ map chosen_of ns → map name_of cs ≡ ns
  names-chosen [] [] e = refl
  names-chosen [] (n ∷ ns) e = absurd (cc)
  names-chosen (c ∷ cs) [] e = absurd (cc)
  names-chosen (c ∷ cs) (n ∷ ns) e =
      let here = picked (λ m. same_name n (name_of m)) ms _ c (first-is c cs (chosen_of n) (map chosen_of ns) e) in
      λ i. sym (same-is n (name_of c) here.0) i ∷ names-chosen cs ns (rest-is c cs (chosen_of n) (map chosen_of ns) e) i

  -- and the choices are members
  members-chosen : (cs : List Member) (ns : List (List ℕ)) → map Some cs ≡ map chosen_of ns → All (Contains ms) cs
  members-chosen [] ns e = λ k d h. absurd (omega (arith, h))
  members-chosen (c ∷ cs) [] e = absurd (cc)
  members-chosen (c ∷ cs) (n ∷ ns) e =
      let here = picked (λ m. same_name n (name_of m)) ms _ c (first-is c cs (chosen_of n) (map chosen_of ns) e) in
      All-cons (Contains ms) c cs here.1 (members-chosen cs ns (rest-is c cs (chosen_of n) (map chosen_of ns) e))

-- a group has as many as have its name
count-names : (k : List ℕ) (cs : List Member) → length (group k cs) ≡ length (filter (same_name k) (map name_of cs))
count-names k [] = refl
count-names k (c ∷ cs) = elim (cases_Bool (same_name k (name_of c))) [
  | inl y ↦ rw y (ap (λ n. suc n) (count-names k cs))
  | inr e ↦ rw e (count-names k cs)
]

-- a name that isn't there is there no time, one that is there once
none-of : (k : List ℕ) (ns : List (List ℕ)) → list_any (same_name k) ns ≡ false → length (filter (same_name k) ns) ≡ 0
none-of k [] none = refl
none-of k (n ∷ ns) none = elim (cases_Bool (same_name k n)) [
  | inl y ↦ absurd (false≢true (sym none ∙ rw y refl))
  | inr e ↦ rw e (none-of k ns (rw e at none))
]

one-of : (k : List ℕ) (ns : List (List ℕ)) → Once ns → list_any (same_name k) ns ≡ true → length (filter (same_name k) ns) ≡ 1
one-of k [] once some = absurd (false≢true some)
one-of k (n ∷ ns) once some = elim (cases_Bool (same_name k n)) [
  | inl y ↦ rw y (ap (λ n. suc n) (none-of k ns (subst (λ x. list_any (same_name x) ns ≡ false) (sym (same-is k n y)) once.0)))
  | inr e ↦ rw e (one-of k ns once.1 (rw e at some))
]

-- the choices are those of the names' groups
pub which : (ms cs : List Member) (groups : List (List Member)) (word : ℕ) → groups ≡ map (λ name. group name ms) (names_of ms)
    → map Some cs ≡ map (chosen word) groups → map Some cs ≡ map (λ name. chosen word (group name ms)) (names_of ms)
which ms cs groups word are e = e ∙ ap (map (chosen word)) are ∙ of_each (names_of ms)
  where
    of_each : (ns : List (List ℕ)) → map (chosen word) (map (λ name. group name ms) ns) ≡ map (λ name. chosen word (group name ms)) ns
    of_each [] = refl
    of_each (n ∷ ns) = ap (λ l. chosen word (group n ms) ∷ l) (of_each ns)

-- so each name that a member has is chosen once
pub one_of_each : (ms cs : List Member) (groups : List (List Member)) (word : ℕ) → groups ≡ map (λ name. group name ms) (names_of ms)
    → map Some cs ≡ map (chosen word) groups → IsOneOfEach ms cs
one_of_each ms cs groups word are e = record {
  once = λ m has.
      let k = name_of m in
      count-names k cs
      ∙ ap (λ ns. length (filter (same_name k) ns)) (names-chosen ms word cs (names_of ms) (which ms cs groups word are e))
      ∙ one-of k (names_of ms) (once-names ms) (any-names k ms ∙ list_any-from_Any (λ x. same_name k (name_of x)) ms (has.0, m, has.1, has.2, same-itself k));
  member = members-chosen ms word cs (names_of ms) (which ms cs groups word are e);
}
