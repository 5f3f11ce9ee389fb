-- What a change by id left, with whether it has ended.
use Rattle.std.proofs.Common.{◌≡◌, ◌∙◌, ℕ, Bool, true, false, true≢false, List, [], Option, Some, None, map, filter, ap, sym, refl, subst, MatchOption, cond, nat_lt, ◌+◌}
use Rattle.std.specs.Map.{lookup, set_value, remove_entry, values_of}
use Rattle.world_subscriptions.specs.Limit.{has_ended, unended}
use Rattle.world_rows.specs.declared.subscription.Subscription.{Subscription}
use Rattle.world_subscriptions.specs.Changes.{only, is_id, bumped}
use Rattle.world_subscriptions.specs.Kept.{IsKept}
use Rattle.world_subscriptions.specs.Index.{if_any}
use Rattle.world_rows.proofs.Places.{Changes}
use Rattle.world_subscriptions.proofs.Entries.{Entries, lookup_set, over, ended_of, absent, goes_on, ends, kept-set, kept-ended}

module _ (f : Subscription → Subscription) (id : ℕ) (es new : Entries) (kept : IsKept es) (ended : Bool) where
  pub on_at : Changes f id es new ended → ended ≡ false → values_of new ≡ unended (map (only f id) (values_of es))
  on_at h is = by (lookup (is_id id) es) refl h
    where
      by : (o : Option Subscription) → lookup (is_id id) es ≡ o → MatchOption o ((new ≡ es) × (ended ≡ false)) (λ s. (new ≡ set_value (is_id id) es (f s)) × (ended ≡ has_ended (f s))) →
          values_of new ≡ unended (map (only f id) (values_of es))
      by None e h = ap values_of h.0 ∙ sym (absent f id es kept e)
      by (Some s) e h = ap values_of h.0 ∙ goes_on f id es s kept e (sym h.1 ∙ is)

  pub ended_at : Changes f id es new ended → ended ≡ true → values_of (remove_entry (is_id id) new) ≡ unended (map (only f id) (values_of es))
  ended_at h is = by (lookup (is_id id) es) refl h
    where
      by : (o : Option Subscription) → lookup (is_id id) es ≡ o → MatchOption o ((new ≡ es) × (ended ≡ false)) (λ s. (new ≡ set_value (is_id id) es (f s)) × (ended ≡ has_ended (f s))) →
          values_of (remove_entry (is_id id) new) ≡ unended (map (only f id) (values_of es))
      by None e h = absurd (true≢false (sym is ∙ h.1))
      by (Some s) e h = ap (λ (xs : Entries). values_of (remove_entry (is_id id) xs)) h.0 ∙ ends f id es s kept e (sym h.1 ∙ is)

  pub kept_on : ((x : Subscription) → (f x).id ≡ x.id) → Changes f id es new ended → ended ≡ false → IsKept new
  kept_on same h is = by (lookup (is_id id) es) refl h
    where
      by : (o : Option Subscription) → lookup (is_id id) es ≡ o → MatchOption o ((new ≡ es) × (ended ≡ false)) (λ s. (new ≡ set_value (is_id id) es (f s)) × (ended ≡ has_ended (f s))) → IsKept new
      by None e h = subst IsKept (sym h.0) kept
      by (Some s) e h = subst IsKept (sym h.0) (kept-set f id es s same kept e (sym h.1 ∙ is))

  pub kept_over : Changes f id es new ended → ended ≡ true → IsKept (remove_entry (is_id id) new)
  kept_over h is = by (lookup (is_id id) es) refl h
    where
      by : (o : Option Subscription) → lookup (is_id id) es ≡ o → MatchOption o ((new ≡ es) × (ended ≡ false)) (λ s. (new ≡ set_value (is_id id) es (f s)) × (ended ≡ has_ended (f s))) → IsKept (remove_entry (is_id id) new)
      by None e h = absurd (true≢false (sym is ∙ h.1))
      by (Some s) e h = subst (λ (xs : Entries). IsKept (remove_entry (is_id id) xs)) (sym h.0) (kept-ended id es (f s) kept)

module _ (f : Subscription → Subscription) (id : ℕ) (es new : Entries) (kept : IsKept es) (ended : Bool) where
  abbrev over_all : List Subscription
  over_all = filter has_ended (map (only f id) (values_of es))

  pub none_ends : Changes f id es new ended → ended ≡ false → [] ≡ over_all
  none_ends h is = by (lookup (is_id id) es) refl h ∙ over f id es kept
    where
      by : (o : Option Subscription) → lookup (is_id id) es ≡ o → MatchOption o ((new ≡ es) × (ended ≡ false)) (λ s. (new ≡ set_value (is_id id) es (f s)) × (ended ≡ has_ended (f s))) → [] ≡ if_any (ended_of f (lookup (is_id id) es))
      by None e h = rw e refl
      by (Some s) e h = rw (e, sym h.1 ∙ is) refl

  pub one_ends : Changes f id es new ended → ended ≡ true → if_any (lookup (is_id id) new) ≡ over_all
  one_ends h is = by (lookup (is_id id) es) refl h ∙ over f id es kept
    where
      by : (o : Option Subscription) → lookup (is_id id) es ≡ o → MatchOption o ((new ≡ es) × (ended ≡ false)) (λ s. (new ≡ set_value (is_id id) es (f s)) × (ended ≡ has_ended (f s))) → if_any (lookup (is_id id) new) ≡ if_any (ended_of f (lookup (is_id id) es))
      by None e h = absurd (true≢false (sym is ∙ h.1))
      by (Some s) e h = ap if_any (ap (λ (xs : Entries). lookup (is_id id) xs) h.0 ∙ lookup_set id es (f s) s e) ∙ sym (rw (e, sym h.1 ∙ is) refl)

pub bumped-id : (s : Subscription) → (bumped s).id ≡ s.id
bumped-id s = here (nat_lt s.received 18446744073709551615)
  where
    here : (b : Bool) → (cond b (record s { received = s.received + 1 }) s).id ≡ s.id
    here true = refl
    here false = refl
