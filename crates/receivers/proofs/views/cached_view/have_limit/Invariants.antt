-- one has a limit among all where one has among those that are left
use Rattle.std.proofs.Common.{◌≡◌, map, drop}
use Rattle.std.specs.List.{list_any}
use Rattle.receivers.specs.views.CachedViews.{has_limit}
use Rattle.receivers.proofs.views.cached_view.have_limit.Given as goal

abbrev pub invariant-loop-subscription : goal.invariant-loop-subscription
invariant-loop-subscription l =
    list_any has_limit (map (λ s. s.now) (drop l.subscription-index l.all)) ≡ list_any has_limit (map (λ s. s.now) l.all)
