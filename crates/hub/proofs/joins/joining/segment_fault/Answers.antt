-- each of the three is a fault
use Rattle.hub.proofs.joins.Least.{fault-wrong}
use Rattle.hub.proofs.joins.joining.segment_fault.Goals as goal

pub returns-clause-wrong : goal.returns-clause-wrong
returns-clause-wrong c =
    fault-wrong c.args.segments.now c.args.hub.now c.args.segment.now _ _ _ _ _ c.lesser.ensures c.lesser-2.ensures c.misplaced_after-first.ensures.wrong c.misplaced_after-next.ensures.wrong c.segment_unbegun-unbegun.ensures.wrong
