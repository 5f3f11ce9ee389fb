-- each segment so far that may be the part before ends in the world
use Rattle.std.proofs.Common.{◌≡◌, All, take, true}
use Rattle.hub.specs.Segments.{HistoryPart}
use Rattle.hub.specs.joins.Joins.{place}
use Rattle.hub.specs.joins.Search.{is_before}
use Rattle.hub.proofs.joins.joining.begins.Given as goal

abbrev pub invariant-loop-segment : goal.invariant-loop-segment
invariant-loop-segment l = All (λ (p : HistoryPart). is_before (place p) l.nearest l.at l.empty ≡ true → l.opening ≡ p.closing) (take l.segment-index l.segments)
