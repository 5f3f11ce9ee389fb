-- what is written and what is left complete the whole
use Rattle.std.proofs.Common.{◌≡◌, ◌+◌, ◌++◌, ◌≤◌, length}
use Rattle.std.specs.Vec.{vec_len, vec_capacity}
use Rattle.wire_write.proofs.append.put_many.Given as goal

abbrev pub invariant-loop-left : goal.invariant-loop-left
invariant-loop-left l = record {
  items : l.out.items ++ l.left ≡ l.fn.out.items ++ l.fn.piece;
  len : vec_len l.out + length l.left ≡ vec_len l.fn.out + length l.fn.piece;
  capacity : vec_capacity l.fn.out ≤ vec_capacity l.out;
  many : 32 ≤ length l.left;
}

abbrev pub decreases-loop-left : goal.decreases-loop-left
decreases-loop-left l = length l.left
