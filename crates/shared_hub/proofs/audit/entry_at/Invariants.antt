-- none of the segments so far has the number
use Rattle.std.proofs.Common.{◌≡◌, All, false, take}
use Rattle.hub.specs.Segments.{HistoryPart}
use Rattle.hub.specs.joins.Joins.{has_number}
use Rattle.shared_hub.proofs.audit.entry_at.Given as goal

abbrev pub invariant-loop-segment : goal.invariant-loop-segment
invariant-loop-segment l = All (λ (p : HistoryPart). has_number l.number p ≡ false) (take l.segment-index l.segments)
