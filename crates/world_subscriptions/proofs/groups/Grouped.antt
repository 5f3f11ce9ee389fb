-- Of the members of one queue group the one that is chosen is served, and nobody else.
use Rattle.std.proofs.Common.{◌≡◌, ◌∙◌, ◌==◌, ◌<◌, ◌%◌, ◌^◌, ℕ, zero, suc, Bool, true, false, cond, List, [], ◌∷◌, filter, length, Option, Some, None, slice_get, get_or, ap, sym, refl, inl, inr, arith, ◌⊎◌}
use Rattle.std.specs.Prelude.{All, is_some}
use Rattle.std.specs.List.{list_any}
use Rattle.std.specs.Option.{option_map}
use Rattle.std.proofs.lemmas.Bool.{cases_Bool, false≢true, eq-eqb, ne_eqb}
use Rattle.std.proofs.lemmas.List.Elements.{All-head, All-tail}
use Rattle.std.proofs.lemmas.Option.{none-some, slice_get_cases}
use Rattle.subjects.specs.Subject.{Token, text_of}
use Rattle.world_subscriptions.specs.queue_choice.Choices.{chosen}
use Rattle.world_rows.specs.declared.subscription.Subscription.{Subscription}
use Rattle.world_subscriptions.specs.groups.Served.{served}
use Rattle.world_subscriptions.specs.groups.Chosen.{Rising, is_queued, is_other, is_outside, is_kept_alone}
use Rattle.world_subscriptions.specs.groups.Grouped.{if_any}
use Rattle.world_subscriptions.proofs.groups.Chosen.{same_where, any-weaker, all_pass, alone_are, id_of, is_id}

-- ---- the one at a place

none_of : (n : ℕ) (xs : List Subscription) → All (λ (s : Subscription). (n == s.id) ≡ false) xs → filter (λ (s : Subscription). n == s.id) xs ≡ []
none_of n [] h = refl
none_of n (x ∷ xs) h =
    ap (λ b. cond b (x ∷ filter (λ (s : Subscription). n == s.id) xs) (filter (λ (s : Subscription). n == s.id) xs)) (All-head (λ (s : Subscription). (n == s.id) ≡ false) x xs h)
    ∙ none_of n xs (All-tail (λ (s : Subscription). (n == s.id) ≡ false) x xs h)

rest-rising : (x : Subscription) (xs : List Subscription) → Rising (x ∷ xs) → Rising xs
rest-rising x xs rising i j d h k = rising (suc i) (suc j) d (omega (arith, h)) (omega (arith, k))

-- where ids rise, one alone has the id of whoever stands at a place
only_at : (xs : List Subscription) (i : ℕ) → Rising xs → filter (λ (s : Subscription). is_id s.id (option_map id_of (slice_get xs i))) xs ≡ if_any (slice_get xs i)
only_at [] i rising = refl
only_at (x ∷ xs) zero rising =
    let later : All (λ (s : Subscription). (x.id == s.id) ≡ false) xs = λ k d h. ne_eqb _ _ (λ same. let below = rising zero (suc k) d (omega arith) (omega (arith, h)) in absurd (omega (arith, below, same))) in
    ap (λ b. cond b (x ∷ filter (λ (s : Subscription). x.id == s.id) xs) (filter (λ (s : Subscription). x.id == s.id) xs)) (eq-eqb x.id x.id refl)
    ∙ ap (λ rest. x ∷ rest) (none_of x.id xs later)
only_at (x ∷ xs) (suc i) rising = here (slice_get xs i) refl (only_at xs i (rest-rising x xs rising))
  where
    apart : (c : Subscription) → slice_get xs i ≡ Some c → (c.id == x.id) ≡ false
    apart c e = elim (slice_get_cases xs i).1 [
      | inl found ↦ ne_eqb _ _ (λ same.
          let is : found.0 ≡ c = ap (λ (o : Option Subscription). or_else o c) (sym found.2 ∙ e) in
          let at : (get_or xs i found.0).id ≡ c.id = ap id_of (found.3 ∙ is) in
          let below = rising zero (suc i) found.0 (omega arith) (omega (arith, found.1)) in absurd (omega (arith, below, same, at)))
      | inr past ↦ absurd (none-some c (sym past.1 ∙ e))
    ]
      where
        or_else : Option Subscription → Subscription → Subscription
        or_else None d = d
        or_else (Some s) d = s

    here : (o : Option Subscription) → slice_get xs i ≡ o → filter (λ (s : Subscription). is_id s.id (option_map id_of o)) xs ≡ if_any o →
        filter (λ (s : Subscription). is_id s.id (option_map id_of o)) (x ∷ xs) ≡ if_any o
    here None e later = later
    here (Some c) e later = ap (λ b. cond b (x ∷ filter (λ (s : Subscription). c.id == s.id) xs) (filter (λ (s : Subscription). c.id == s.id) xs)) (apart c e) ∙ later

-- ---- one group

module _ (queue : List Token) (xs : List Subscription) (inside : list_any (λ s. is_outside queue s.queue) xs ≡ false) where
  no_other : list_any (λ s. is_other queue s.queue) xs ≡ false
  no_other = elim (cases_Bool (list_any (λ s. is_other queue s.queue) xs)) [
    | inl y ↦ absurd (false≢true (sym inside ∙ any-weaker (λ s. is_other queue s.queue) (λ s. is_outside queue s.queue) xs (λ s is. outside s.queue is) y))
    | inr e ↦ e
  ]
    where
      outside : (o : Option (List Token)) → is_other queue o ≡ true → is_outside queue o ≡ true
      outside None is = refl
      outside (Some q) is = is

  all_queued : filter is_queued xs ≡ xs
  all_queued = same_where (λ s. is_outside queue s.queue) is_queued (λ s. true) xs inside (λ s e. queued s.queue e) ∙ all_pass xs
    where
      queued : (o : Option (List Token)) → is_outside queue o ≡ false → is_some o ≡ true
      queued None e = absurd (false≢true (sym e))
      queued (Some q) e = refl

  kept_chosen : (o : Option Subscription) → filter (λ (s : Subscription). is_kept_alone (option_map id_of o) s.id s.queue) xs ≡ filter (λ (s : Subscription). is_id s.id (option_map id_of o)) xs
  kept_chosen o = same_where (λ s. is_outside queue s.queue) (λ (s : Subscription). is_kept_alone (option_map id_of o) s.id s.queue) (λ (s : Subscription). is_id s.id (option_map id_of o)) xs inside (λ s e. same s o s.queue e)
    where
      same : (s : Subscription) (o : Option Subscription) (q : Option (List Token)) → is_outside queue q ≡ false → is_kept_alone (option_map id_of o) s.id q ≡ is_id s.id (option_map id_of o)
      same s o None e = absurd (false≢true (sym e))
      same s None (Some q) e = refl
      same s (Some c) (Some q) e = refl

  pub one_is : Rising xs → (word : ℕ) → served word xs ≡ if_any (chosen word xs)
  one_is rising word =
      sym (alone_are queue xs word no_other)
      ∙ ap (λ (ms : List Subscription). filter (λ (s : Subscription). is_kept_alone (option_map id_of (chosen word ms)) s.id s.queue) xs) all_queued
      ∙ kept_chosen (chosen word xs)
      ∙ only_at xs (word % 2 ^ 32 % length xs) rising
