-- so many are written, and the others are left
use Rattle.std.proofs.Common.{◌≡◌, drop, length}
use Rattle.session_plan.specs.pending.Texts.{IsWritten}
use Rattle.session_plan.proofs.pending.writing.write_each.Given as goal

abbrev pub invariant-loop-next : goal.invariant-loop-next
invariant-loop-next l = record {
  written : IsWritten l.headers l.fn.out.items l.fn.owed.deliveries l.out.items (drop l.written l.fn.owed.deliveries);
  left : l.left ≡ drop l.written l.fn.owed.deliveries;
}

abbrev pub decreases-loop-next : goal.decreases-loop-next
decreases-loop-next l = length l.left
