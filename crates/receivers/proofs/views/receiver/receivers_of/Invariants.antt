-- those that were made and those that are still to be are the receivers of all
use Rattle.std.proofs.Common.{◌≡◌, ◌++◌, map, drop}
use Rattle.receivers.specs.views.Receivers.{receiver_of}
use Rattle.receivers.proofs.views.receiver.receivers_of.Given as goal

abbrev pub invariant-loop-subscription : goal.invariant-loop-subscription
invariant-loop-subscription l =
    l.all.items ++ map receiver_of (map (λ s. s.now) (drop l.subscription-index l.subscriptions)) ≡ map receiver_of (map (λ s. s.now) l.subscriptions)
