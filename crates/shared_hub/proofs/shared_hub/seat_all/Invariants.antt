-- as many parts are left as seats, and none that was made has entered or handed out anything
use Rattle.std.proofs.Common.{◌≡◌, ◌+◌, ◌≤◌, All, vec_len, vec_capacity}
use Rattle.shared_hub.proofs.shared_hub.seat_all.Given as goal

abbrev pub invariant-loop-next : goal.invariant-loop-next
invariant-loop-next g l = record {
  parts : l.rest.parts + l.next ≡ l.seats;
  amount : l.rest.amount ≡ 0;
  made : vec_len l.made ≡ l.next;
  room : l.seats ≤ vec_capacity l.made;
  fresh : All (λ s. (s.count ≡ 0) × (s.rotations ≡ 0)) l.made.items;
}
