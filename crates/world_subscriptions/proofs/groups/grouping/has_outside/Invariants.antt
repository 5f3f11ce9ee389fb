-- one is outside among all where one is among those that are left
use Rattle.std.proofs.Common.{◌≡◌, map, drop}
use Rattle.std.specs.List.{list_any}
use Rattle.world_subscriptions.specs.groups.Chosen.{is_outside}
use Rattle.world_subscriptions.proofs.groups.grouping.has_outside.Given as goal

abbrev pub invariant-loop-subscription : goal.invariant-loop-subscription
invariant-loop-subscription l =
    list_any (λ s. is_outside l.queue s.queue) (map (λ s. s.now) (drop l.subscription-index l.all)) ≡ list_any (λ s. is_outside l.queue s.queue) (map (λ s. s.now) l.all)
