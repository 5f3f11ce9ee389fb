-- What holds of all, in words of every list.
use Rattle.std.proofs.Common.{◌≡◌, ◌<◌, ℕ, List, [], ◌∷◌, false, All, AllPairs, arith}
use Rattle.std.specs.Map.{values_of}
use Rattle.std.proofs.lemmas.List.Elements.{All-nil, All-cons}
use Rattle.std.proofs.lemmas.List.Kept.{AllPairs-cons}
use Rattle.world_subscriptions.specs.Limit.{has_ended}
use Rattle.world_subscriptions.specs.Subscriptions.{has_same_sid}
use Rattle.world_subscriptions.specs.Kept.{IsKept, NoneLike, Apart}
use Rattle.world_rows.specs.declared.subscription.Subscription.{Subscription}

below_all : (s : Subscription) (subs : List Subscription) → NoneLike s subs → All (λ (t : Subscription). s.id < t.id) subs
below_all s [] none = All-nil (λ (t : Subscription). s.id < t.id)
below_all s (t ∷ subs) none = All-cons (λ (u : Subscription). s.id < u.id) t subs none.0 (below_all s subs none.2)

none_same : (s : Subscription) (subs : List Subscription) → NoneLike s subs → All (λ (t : Subscription). has_same_sid s t ≡ false) subs
none_same s [] none = All-nil (λ (t : Subscription). has_same_sid s t ≡ false)
none_same s (t ∷ subs) none = All-cons (λ (u : Subscription). has_same_sid s u ≡ false) t subs none.1 (none_same s subs none.2)

pub ids_rise : (subs : List Subscription) → Apart subs → AllPairs (λ (s t : Subscription). s.id < t.id) subs
unfolding Apart
ids_rise [] apart = λ i j d below within. absurd (omega arith)
ids_rise (s ∷ subs) apart = AllPairs-cons (λ (x y : Subscription). x.id < y.id) s subs (below_all s subs apart.0) (ids_rise subs apart.1)

pub sids_differ : (subs : List Subscription) → Apart subs → AllPairs (λ (s t : Subscription). has_same_sid s t ≡ false) subs
unfolding Apart
sids_differ [] apart = λ i j d below within. absurd (omega arith)
sids_differ (s ∷ subs) apart = AllPairs-cons (λ (x y : Subscription). has_same_sid x y ≡ false) s subs (none_same s subs apart.0) (sids_differ subs apart.1)

pub none_ended : (es : List (ℕ × Subscription)) → IsKept es → All (λ (s : Subscription). has_ended s ≡ false) (values_of es)
unfolding IsKept
none_ended [] kept = All-nil (λ (s : Subscription). has_ended s ≡ false)
none_ended (e ∷ es) kept = All-cons (λ (s : Subscription). has_ended s ≡ false) e.1 (values_of es) kept.1 (none_ended es kept.3)
