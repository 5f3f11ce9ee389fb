-- the place so far, and what is left, make the whole
use Rattle.std.proofs.Common.{◌≡◌, ◌≤◌, ◌+◌, drop}
use Rattle.policy_notes.specs.positions.Place.{column_after, line_after}
use Rattle.policy_notes.proofs.positions.place.place_behind.Given as goal

abbrev pub invariant-loop-byte : goal.invariant-loop-byte
invariant-loop-byte l =
    (line_after l.line (drop l.byte-index l.front) ≡ line_after 1 l.front)
    × (column_after l.column (drop l.byte-index l.front) ≡ column_after 1 l.front)
    × (l.line ≤ l.byte-index + 1) × (l.column ≤ l.byte-index + 1)
