-- the deliveries so far have room, this is what they meet, and there is room for what the others meet
use Rattle.std.proofs.Common.{◌≡◌, ◌<◌, ◌≤◌, ℕ, get_or, take, map, length, vec_len, vec_capacity}
use Rattle.events.specs.declared.answer.Addressed.{Addressed}
use Rattle.world_sessions.specs.deliveries.Planned.{entered, rooms_of, IsRoomy}
use Rattle.world_sessions.proofs.deliveries.plan.enter_all.Given as goal

abbrev pub invariant-loop-before : goal.invariant-loop-before
invariant-loop-before l = record {
  roomy : (k : ℕ) (d : Addressed) → k < l.before → IsRoomy k (get_or l.all k d) (rooms_of l.by.list.now);
  met : l.items.items ≡ map entered (take l.before l.all);
  moved : vec_len l.items ≡ l.before;
  reserved : length l.all ≤ vec_capacity l.items;
}
