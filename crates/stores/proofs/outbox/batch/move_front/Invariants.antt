-- the first elements are moved, and the ring has the others
use Rattle.std.proofs.Common.{◌≡◌, ◌≤◌, ◌+◌, take, drop, length, vec_len, vec_capacity}
use Rattle.stores.specs.outbox.Bounded.{listed}
use Rattle.stores.proofs.outbox.batch.move_front.Given as goal

abbrev pub invariant-moving : goal.invariant-moving
invariant-moving g l = record {
  taken : l.moved.items ≡ take l.counter l.initial.ring.items;
  rest : l.ring.items ≡ drop l.counter l.initial.ring.items;
  capacity : l.ring.capacity ≡ l.initial.ring.capacity;
  moved : vec_len l.moved ≡ l.counter;
  reserved : l.count + length (listed l.last) ≤ vec_capacity l.moved;
}
