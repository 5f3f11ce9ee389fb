-- Of each queue group with an admitted member exactly one is served.
use Rattle.std.proofs.Common.{◌≡◌, ◌∙◌, ◌<◌, ◌%◌, ◌^◌, ℕ, zero, suc, Bool, true, false, not, cond, List, [], ◌∷◌, map, filter, length, Option, Some, None, get_or, ap, sym, refl, inl, inr, arith}
use Rattle.std.specs.Prelude.{All, is_some}
use Rattle.std.specs.List.{list_any}
use Rattle.std.proofs.lemmas.Bool.{cases_Bool, false≢true, ne_eqb, eq-eqb}
use Rattle.std.proofs.lemmas.List.Elements.{All-head, All-tail}
use Rattle.std.proofs.lemmas.List.Kept.{AllPairs-filter}
use Rattle.std.proofs.lemmas.Nat.{mod_below}
use Rattle.std.proofs.lemmas.Option.{slice_get-get_or}
use Rattle.subjects.specs.Subject.{Token, text_of}
use Rattle.world_subscriptions.specs.queue_choice.Choices.{chosen}
use Rattle.world_subscriptions.proofs.queue_choice.Names.{same-is}
use Rattle.world_rows.specs.declared.subscription.Subscription.{Subscription}
use Rattle.world_subscriptions.specs.groups.Served.{is_named, is_member, members, is_the, is_served_by, is_served, served}
use Rattle.world_subscriptions.specs.groups.Chosen.{Rising}
use Rattle.hub.specs.Guarantee.{is_plain, AreServed}
use Rattle.hub.proofs.Finds.{AllPairs-head, AllPairs-tail}

-- a filter of a filter, where a test is another among those that pass
filter-among : {X : Type 0} (p q r : X → Bool) → ((x : X) → p x ≡ true → q x ≡ r x) → (xs : List X) → filter p (filter q xs) ≡ filter r (filter p xs)
filter-among p q r same [] = refl
filter-among {X} p q r same (x ∷ xs) = here (p x) (q x) refl (same x) (filter-among p q r same xs)
  where
    here : (b c : Bool) → p x ≡ b → (p x ≡ true → c ≡ r x) → filter p (filter q xs) ≡ filter r (filter p xs) →
        filter p (cond c (x ∷ filter q xs) (filter q xs)) ≡ filter r (cond b (x ∷ filter p xs) (filter p xs))
    here true true is agree later =
        ap (λ d. cond d (x ∷ filter p (filter q xs)) (filter p (filter q xs))) is
        ∙ ap (λ ys. x ∷ ys) later
        ∙ ap (λ d. cond d (x ∷ filter r (filter p xs)) (filter r (filter p xs))) (agree is)
    here true false is agree later = later ∙ ap (λ d. cond d (x ∷ filter r (filter p xs)) (filter r (filter p xs))) (agree is)
    here false true is agree later = ap (λ d. cond d (x ∷ filter p (filter q xs)) (filter p (filter q xs))) is ∙ later
    here false false is agree later = later

all-pass : {X : Type 0} (xs : List X) → filter (λ _. true) xs ≡ xs
all-pass [] = refl
all-pass (x ∷ xs) = ap (λ ys. x ∷ ys) (all-pass xs)

-- where ids rise, one alone has an id
none-the : (c : Subscription) (xs : List Subscription) → All (λ (s : Subscription). c.id < s.id) xs → filter (is_the (Some c)) xs ≡ []
none-the c [] above = refl
none-the c (s ∷ xs) above =
    let h = All-head (λ (s : Subscription). c.id < s.id) s xs above in
    ap (λ b. cond b (s ∷ filter (is_the (Some c)) xs) (filter (is_the (Some c)) xs)) (ne_eqb c.id s.id (λ e. absurd (omega (arith, h, e))))
    ∙ none-the c xs (All-tail (λ (s : Subscription). c.id < s.id) s xs above)

one-the : (xs : List Subscription) → Rising xs → (k : ℕ) (d : Subscription) → k < length xs → filter (is_the (Some (get_or xs k d))) xs ≡ get_or xs k d ∷ []
one-the [] rising k d h = absurd (omega (arith, h))
one-the (s ∷ xs) rising zero d h =
    ap (λ b. cond b (s ∷ filter (is_the (Some s)) xs) (filter (is_the (Some s)) xs)) (eq-eqb s.id s.id refl)
    ∙ ap (λ ys. s ∷ ys) (none-the s xs (AllPairs-head (λ (s t : Subscription). s.id < t.id) s xs rising))
one-the (s ∷ xs) rising (suc k) d h =
    let c = get_or xs k d in
    let below : s.id < c.id = AllPairs-head (λ (s t : Subscription). s.id < t.id) s xs rising k d (omega (arith, h)) in
    ap (λ b. cond b (s ∷ filter (is_the (Some c)) xs) (filter (is_the (Some c)) xs)) (ne_eqb c.id s.id (λ e. absurd (omega (arith, below, e))))
    ∙ one-the xs (AllPairs-tail (λ (s t : Subscription). s.id < t.id) s xs rising) k d (omega (arith, h))

-- of a list that has one, the chosen is one of them
chosen-one : (word : ℕ) (xs : List Subscription) → Rising xs → 0 < length xs → map Some (filter (is_the (chosen word xs)) xs) ≡ chosen word xs ∷ []
chosen-one word [] rising some = absurd (omega (arith, some))
chosen-one word (s ∷ xs) rising some =
    let all : List Subscription = s ∷ xs in
    let k : ℕ = word % 2 ^ 32 % length all in
    let below : k < length all = mod_below (word % 2 ^ 32) (length all) some in
    let is : chosen word all ≡ Some (get_or all k s) = slice_get-get_or all k s below in
    ap (λ o. map Some (filter (is_the o) all)) is ∙ ap (map Some) (one-the all rising k s below) ∙ sym (ap (λ o. o ∷ []) is)

some-passes : {X : Type 0} (p : X → Bool) (xs : List X) → list_any p xs ≡ true → 0 < length (filter p xs)
some-passes p [] some = absurd (false≢true some)
some-passes p (x ∷ xs) some = elim (cases_Bool (p x)) [
  | inl y ↦ rw y (omega arith)
  | inr e ↦ rw e (some-passes p xs (rw e at some))
]

-- a member of a named group is served where it is the chosen one
served-as : (word : ℕ) (xs : List Subscription) (name : List ℕ) (s : Subscription) (o : Option (List Token)) → s.queue ≡ o → is_named name o ≡ true → is_served_by word xs s o ≡ is_the (chosen word (members name xs)) s
served-as word xs name s None e is = absurd (false≢true is)
served-as word xs name s (Some q) e is = ap (λ n. is_the (chosen word (members n xs)) s) (sym (same-is name (text_of q) is))

plain-served : (word : ℕ) (xs : List Subscription) (s : Subscription) (o : Option (List Token)) → s.queue ≡ o → not (is_some o) ≡ true → is_served_by word xs s o ≡ true
plain-served word xs s None e is = refl
plain-served word xs s (Some q) e is = absurd (false≢true is)

pub are_served : (word : ℕ) (xs : List Subscription) → Rising xs → AreServed word xs (served word xs)
are_served word xs rising = record {
  which = is_served word xs;
  some = refl;
  plain = filter-among is_plain (is_served word xs) (λ _. true) (λ s is. plain-served word xs s s.queue refl is) xs ∙ all-pass (filter is_plain xs);
  one_each = λ name some.
      ap (map Some) (filter-among (is_member name) (is_served word xs) (is_the (chosen word (members name xs))) (λ s is. served-as word xs name s s.queue refl is) xs)
      ∙ chosen-one word (members name xs) (AllPairs-filter (λ (s t : Subscription). s.id < t.id) (is_member name) xs rising) (some-passes (is_member name) xs some);
}
