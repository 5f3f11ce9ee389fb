use Rattle.std.proofs.Common.{◌∙◌, ap, List}
use Rattle.std.specs.Prelude.{length}
use Rattle.std.specs.Map.{values_of}
use Rattle.world_subscriptions.specs.Subscriptions.{of_connection}
use Rattle.world_rows.specs.declared.subscription.Subscription.{Subscription}
use Rattle.world_subscriptions.proofs.BySid.{counted_sids}
use Rattle.world_subscriptions.proofs.subscriptions.Subscriptions.count_of.Goals as goal

pub returns : goal.returns
returns c =
    counted_sids c.count_of.result c.args.conn c.self.inside.sids (values_of c.self.inside.by_id) c.count_of.ensures c.self.invariant.0.1 c.self.invariant.1
    ∙ ap (λ (ss : List Subscription). length (of_connection c.args.conn ss)) c.self.view_is
