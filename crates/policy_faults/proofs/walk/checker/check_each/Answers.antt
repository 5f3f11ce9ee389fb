use Rattle.std.proofs.Common.{rules}
use Rattle.policy_faults.proofs.Steps.{each_further}
use Rattle.policy_faults.proofs.walk.checker.check_each.Goals as goal

pub loop-index-preserved : goal.loop-index-preserved
loop-index-preserved g c =
    each_further (g.C.Checker.finds c.args.checker.now) c.args.path.now c.args.values.now c.loop-index.index c.index-values-index.result
    c.loop-index.found.items _ _ c.loop-index-test.true c.index-values-index.is (search rules) c.loop-index.invariant
