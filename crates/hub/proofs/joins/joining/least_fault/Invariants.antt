-- what is known of the segments so far
use Rattle.std.proofs.Common.{take}
use Rattle.hub.proofs.joins.Least.{Found}
use Rattle.hub.proofs.joins.joining.least_fault.Given as goal

abbrev pub invariant-loop-segment : goal.invariant-loop-segment
invariant-loop-segment l = Found l.segments l.hub l.least (take l.segment-index l.segments)
