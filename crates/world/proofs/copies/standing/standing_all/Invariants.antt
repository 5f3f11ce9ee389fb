-- those that are shown, and those that are left
use Rattle.std.proofs.Common.{◌≡◌, ◌++◌, map}
use Rattle.world.specs.copies.Shown.{standing_of}
use Rattle.world.proofs.copies.standing.standing_all.Given as goal

abbrev pub invariant-loop-subscription : goal.invariant-loop-subscription
invariant-loop-subscription l = l.all.items ++ map standing_of l.subscription-iterator ≡ map standing_of l.subscriptions
