-- those that stand in the rows that are left are those that were there
use Rattle.std.proofs.Common.{◌≡◌, length}
use Rattle.std.specs.Map.{values_of}
use Rattle.std.specs.Slice.Iter.{iter_rest}
use Rattle.world_rows.specs.Rows.{entries_in}
use Rattle.world_rows.proofs.rows.RowValuesIterator.next.Given as goal

abbrev pub invariant-loop-row : goal.invariant-loop-row
invariant-loop-row l = values_of (entries_in (iter_rest l.initial.self-inside.rows)) ≡ values_of (entries_in (iter_rest l.self-inside.rows))

abbrev pub decreases-loop-row : goal.decreases-loop-row
decreases-loop-row l = length (iter_rest l.self-inside.rows)
