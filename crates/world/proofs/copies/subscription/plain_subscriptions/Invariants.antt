-- those that are copied, and those that are left
use Rattle.std.proofs.Common.{◌≡◌, ◌++◌}
use Rattle.world.proofs.copies.subscription.plain_subscriptions.Given as goal

abbrev pub invariant-loop-subscription : goal.invariant-loop-subscription
invariant-loop-subscription l = l.all.items ++ l.subscription-iterator ≡ l.subscriptions
