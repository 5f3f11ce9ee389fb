-- those so far, and those that are left
use Rattle.std.proofs.Common.{◌≡◌, ◌++◌, map, drop}
use Rattle.std.specs.List.{filter_map}
use Rattle.world_subscriptions.specs.groups.Chosen.{named, named_member}
use Rattle.world_subscriptions.proofs.groups.groups.members_in.Given as goal

abbrev pub invariant-loop-subscription : goal.invariant-loop-subscription
invariant-loop-subscription l =
    map named_member l.members.items ++ filter_map named (map (λ s. s.now) (drop l.subscription-index l.all)) ≡ filter_map named (map (λ s. s.now) l.all)
