-- what is left of the room is more than what is left exactly where all is more than the room
use Rattle.std.proofs.Common.{◌≡◌, length, nat_lt}
use Rattle.std.specs.List.{sum_by}
use Rattle.world_sessions.specs.leniency.Held.{weight_of}
use Rattle.world_sessions.proofs.leniency.weight.weigh_more.Given as goal

abbrev pub invariant-loop-next : goal.invariant-loop-next
invariant-loop-next l = nat_lt l.left (sum_by weight_of l.next) ≡ nat_lt l.fn.room (sum_by weight_of l.fn.waiting)

abbrev pub decreases-loop-next : goal.decreases-loop-next
decreases-loop-next l = length l.next
