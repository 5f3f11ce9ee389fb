-- each segment, and then the tail
use Rattle.std.proofs.Common.{take}
use Rattle.std.proofs.lemmas.List.{take_all}
use Rattle.hub.proofs.joins.Least.{found-segment, found-tail, right-found}
use Rattle.hub.proofs.joins.joining.least_fault.Goals as goal

pub loop-segment-preserved : goal.loop-segment-preserved
loop-segment-preserved c =
    found-segment c.args.segments.now c.args.hub.now c.loop-segment.least c.segment_fault-fault.result c.lesser-least.result c.loop-segment.segment-index c.segment-item.result c.loop-segment-test.true c.segment-item.is c.lesser-least.ensures
    c.loop-segment.invariant c.segment_fault-fault.ensures.wrong c.segment_fault-fault.ensures.clear

pub returns-clause-wrong : goal.returns-clause-wrong
returns-clause-wrong c =
    (found-tail c.args.segments.now c.args.hub.now c.loop-segment.least c.tail_fault-fault.result c.lesser.result (take c.loop-segment.segment-index c.args.segments.now) (take_all _ _ c.loop-segment-test.false) c.lesser.ensures
    c.loop-segment.invariant c.tail_fault-fault.ensures.wrong c.tail_fault-fault.ensures.clear).wrong

pub returns-clause-below : goal.returns-clause-below
returns-clause-below c =
    right-found c.args.segments.now c.args.hub.now c.lesser.result
    (found-tail c.args.segments.now c.args.hub.now c.loop-segment.least c.tail_fault-fault.result c.lesser.result (take c.loop-segment.segment-index c.args.segments.now) (take_all _ _ c.loop-segment-test.false) c.lesser.ensures
    c.loop-segment.invariant c.tail_fault-fault.ensures.wrong c.tail_fault-fault.ensures.clear) c.requires
