-- the choices so far, and those of the groups that are left
use Rattle.std.proofs.Common.{◌≡◌, ◌++◌, Some, map, drop}
use Rattle.world_subscriptions.specs.queue_choice.Choices.{chosen}
use Rattle.world_subscriptions.proofs.queue_choice.choice.choose_each.Given as goal

abbrev pub invariant-loop-group : goal.invariant-loop-group
invariant-loop-group l = map Some l.choices.items ++ map (chosen l.word) (drop l.group-index l.groups) ≡ map (chosen l.word) l.groups
