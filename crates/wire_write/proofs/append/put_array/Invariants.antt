-- the first bytes are written
use Rattle.std.proofs.Common.{◌≡◌, ◌+◌, ◌++◌, ◌≤◌, take}
use Rattle.std.specs.Vec.{vec_len, vec_capacity}
use Rattle.wire_write.proofs.append.put_array.Given as goal

abbrev pub invariant-loop-byte : goal.invariant-loop-byte
invariant-loop-byte g l = record {
  items : l.out.items ≡ l.fn.out.items ++ take l.byte-index l.fn.bytes;
  len : vec_len l.out ≡ vec_len l.fn.out + l.byte-index;
  capacity : vec_capacity l.fn.out ≤ vec_capacity l.out;
}
