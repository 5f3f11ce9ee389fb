use Rattle.std.proofs.Common.{◌≡◌, ℕ, ◌<◌, get_or, true}
use Rattle.wire_read.specs.lines.Field.{is_field_byte}
use Rattle.wire_read.proofs.lines.field.field_len.Given as goal

abbrev pub invariant-loop-i : goal.invariant-loop-i
invariant-loop-i l = (k : ℕ) → k < l.i → is_field_byte (get_or l.text k 0) ≡ true
