-- what is left, planned with the rooms as they are now, gives the rest of the items
use Rattle.std.proofs.Common.{◌≡◌, ◌++◌, drop}
use Rattle.world_sessions.specs.deliveries.Planned.{room_at, planned}
use Rattle.world_sessions.proofs.deliveries.plan.plan_each.Given as goal

abbrev pub invariant-loop-next : goal.invariant-loop-next
invariant-loop-next l = l.items.items ++ planned (drop l.next-index l.all) (room_at l.by.list.now l.rooms) ≡ planned l.initial.all (room_at l.initial.by.list.now l.initial.rooms)
