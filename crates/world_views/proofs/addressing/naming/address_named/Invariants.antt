-- what has been addressed and what is still to be are what all give
use Rattle.std.proofs.Common.{◌≡◌, ◌++◌, map, drop}
use Rattle.events.specs.Sendings.{named}
use Rattle.world_subscriptions.specs.Addressing.{addressed_to}
use Rattle.world_views.proofs.addressing.naming.address_named.Given as goal

abbrev pub invariant-loop-subscription : goal.invariant-loop-subscription
invariant-loop-subscription l =
    l.all.items ++ map (addressed_to (named l.names l.message)) (map (λ s. s.now) (drop l.subscription-index l.found))
    ≡ l.initial.all.items ++ map (addressed_to (named l.names l.message)) (map (λ s. s.now) l.found)
