-- each so far is a part, and its numbers are below 2^64
use Rattle.std.proofs.Common.{All, take}
use Rattle.hub.specs.Segments.{IsHistoryPart}
use Rattle.hub.specs.joins.Search.{AreNumbered}
use Rattle.hub.proofs.joins.joining.known_parts.Given as goal

abbrev pub invariant-loop-segment : goal.invariant-loop-segment
invariant-loop-segment l = record {
  parts : All IsHistoryPart (take l.segment-index l.segments);
  numbers : AreNumbered (take l.segment-index l.segments);
}
