-- there is another name among all where there is one among those that are left
use Rattle.std.proofs.Common.{◌≡◌, map, drop}
use Rattle.std.specs.List.{list_any}
use Rattle.world_subscriptions.specs.groups.Chosen.{is_other}
use Rattle.world_subscriptions.proofs.groups.groups.has_other.Given as goal

abbrev pub invariant-loop-subscription : goal.invariant-loop-subscription
invariant-loop-subscription l =
    list_any (λ s. is_other l.queue s.queue) (map (λ s. s.now) (drop l.subscription-index l.all)) ≡ list_any (λ s. is_other l.queue s.queue) (map (λ s. s.now) l.all)
