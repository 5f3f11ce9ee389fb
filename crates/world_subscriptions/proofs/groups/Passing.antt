-- Steps over the subscriptions of some ids.
use Rattle.std.proofs.Common.{◌≡◌, ◌∙◌, ℕ, Bool, List, [], ◌∷◌, ◌++◌, filter, ap}
use Rattle.std.proofs.lemmas.List.Elements.{filter-append}
use Rattle.world_rows.specs.declared.subscription.Subscription.{Subscription}
use Rattle.world_subscriptions.specs.Index.{found_by}
use Rattle.world_subscriptions.proofs.Indexed.{found_first}

-- those that pass of the first id, and then of the others
pub passing_first : (p : Subscription → Bool) (subs : List Subscription) (id : ℕ) (ids : List ℕ) →
    filter p (found_by subs (id ∷ ids)) ≡ filter p (found_by subs (id ∷ [])) ++ filter p (found_by subs ids)
passing_first p subs id ids = ap (filter p) (found_first subs id ids) ∙ filter-append p (found_by subs (id ∷ [])) (found_by subs ids)
