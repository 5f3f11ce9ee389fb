use Rattle.std.proofs.Common.{◌∙◌}
use Rattle.world_subscriptions.proofs.Apart.{counted_for}
use Rattle.world_subscriptions.proofs.subscriptions.Subscriptions.count.Goals as goal

pub returns-clause-counted : goal.returns-clause-counted
returns-clause-counted c m p is tell =
    c.count_each.ensures ∙ counted_for m p c.args.all.now c.args.items.now c.args.self.now c.prove_invariant.ensures.apart c.prove_invariant.ensures.going is tell
