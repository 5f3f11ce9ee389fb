-- what has been addressed and what is still to be are what all give
use Rattle.std.proofs.Common.{◌≡◌, ◌++◌, map, drop}
use Rattle.world_subscriptions.specs.Addressing.{addressed_to}
use Rattle.world_subscriptions.proofs.address.address_each.Given as goal

abbrev pub invariant-loop-subscription : goal.invariant-loop-subscription
invariant-loop-subscription l =
    l.all.items ++ map (addressed_to l.message) (map (λ s. s.now) (drop l.subscription-index l.subscriptions))
    ≡ l.initial.all.items ++ map (addressed_to l.message) (map (λ s. s.now) l.subscriptions)
