-- without the ids that are left, what is left is what is without all of them
use Rattle.std.proofs.Common.{◌≡◌, drop}
use Rattle.world_subscriptions.proofs.BySid.{without}
use Rattle.world_subscriptions.proofs.subscriptions.Subscriptions.remove_each.Given as goal

abbrev pub invariant-loop-id : goal.invariant-loop-id
invariant-loop-id l = without (drop l.id-index l.ids) l.self ≡ without l.ids l.initial.self
