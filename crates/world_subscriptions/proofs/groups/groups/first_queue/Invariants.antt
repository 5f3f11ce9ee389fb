-- there is a queue among all where there is one among those that are left
use Rattle.std.proofs.Common.{◌≡◌, map, drop}
use Rattle.std.specs.List.{list_any}
use Rattle.world_subscriptions.specs.groups.Chosen.{is_queued}
use Rattle.world_subscriptions.proofs.groups.groups.first_queue.Given as goal

abbrev pub invariant-loop-subscription : goal.invariant-loop-subscription
invariant-loop-subscription l = list_any is_queued (map (λ s. s.now) (drop l.subscription-index l.all)) ≡ list_any is_queued (map (λ s. s.now) l.all)
