-- the counts so far are those of the shares so far, and what is left completes the whole
use Rattle.std.proofs.Common.{◌≡◌, ◌+◌, ◌≤◌, ◌++◌, length, map, vec_len, vec_capacity}
use Rattle.std.specs.Prelude.{sum}
use Rattle.std.specs.VecDeque.{deque_len}
use Rattle.shared_hub.proofs.desk.desk.gather.Given as goal

abbrev pub invariant-loop-seat : goal.invariant-loop-seat
invariant-loop-seat g l = record {
  parts : l.all.parts + length l.seats.items ≡ l.initial.all.parts + length l.initial.seats.items;
  amount : l.all.amount ≡ sum l.counts.items;
  counts : l.counts.items ++ map (λ s. s.count) l.seats.items ≡ map (λ s. s.count) l.initial.seats.items;
  room : vec_len l.counts + length l.seats.items ≤ vec_capacity l.counts;
}

abbrev pub decreases-loop-seat : goal.decreases-loop-seat
decreases-loop-seat g l = deque_len l.seats
