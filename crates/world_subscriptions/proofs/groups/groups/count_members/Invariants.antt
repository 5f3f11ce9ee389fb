-- those so far, and those that are left
use Rattle.std.proofs.Common.{◌≡◌, ◌+◌, ◌≤◌, length, filter, map, drop}
use Rattle.world_subscriptions.specs.groups.Chosen.{is_queued}
use Rattle.world_subscriptions.proofs.groups.groups.count_members.Given as goal

abbrev pub invariant-loop-subscription : goal.invariant-loop-subscription
invariant-loop-subscription l = record {
  all : length (filter is_queued (map (λ s. s.now) (drop l.subscription-index l.all))) + l.count ≡ length (filter is_queued (map (λ s. s.now) l.all));
  most : l.count ≤ l.subscription-index;
}
