-- what has been found and what is still to be are what all give
use Rattle.std.proofs.Common.{◌≡◌, ◌++◌, map, filter, drop}
use Rattle.world_subscriptions.specs.Index.{found_by}
use Rattle.world_subscriptions.proofs.groups.address.passing.Given as goal

abbrev pub invariant-loop-id : goal.invariant-loop-id
invariant-loop-id g l = map (λ s. s.now) l.found.items ++ filter (g.K.Keeps.keeps l.test) (found_by l.subscriptions (drop l.id-index l.ids)) ≡ filter (g.K.Keeps.keeps l.test) (found_by l.subscriptions l.ids)
