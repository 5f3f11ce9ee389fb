use Rattle.std.proofs.Common.{◌≡◌, ◌+◌, ◌*◌, ◌++◌, ◌≤◌, drop, flat_map}
use Rattle.std.specs.Vec.{vec_len, vec_capacity}
use Rattle.lines.specs.reload_lines.Shown.{shown_byte}
use Rattle.lines.proofs.reload_lines.shown.put_all_shown.Given as goal

-- what is appended so far and what is left to show make the whole, and four bytes of room are left for each
abbrev pub invariant-loop-byte : goal.invariant-loop-byte
invariant-loop-byte l = record {
  items : l.out.items ++ flat_map shown_byte (drop l.byte-index l.bytes) ≡ l.fn.out.items ++ flat_map shown_byte l.bytes;
  len : vec_len l.out ≤ vec_len l.fn.out + 4 * l.byte-index;
  capacity : vec_capacity l.fn.out ≤ vec_capacity l.out;
}
