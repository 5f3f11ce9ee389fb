-- the member that is sought is among those that are left
use Rattle.std.proofs.Common.{◌≡◌, filter, map, drop, slice_get}
use Rattle.world_subscriptions.specs.groups.Chosen.{is_queued}
use Rattle.world_subscriptions.proofs.groups.groups.member_at.Given as goal

abbrev pub invariant-loop-subscription : goal.invariant-loop-subscription
invariant-loop-subscription l =
    slice_get (filter is_queued (map (λ s. s.now) (drop l.subscription-index l.all))) l.left ≡ slice_get (filter is_queued (map (λ s. s.now) l.all)) l.number
