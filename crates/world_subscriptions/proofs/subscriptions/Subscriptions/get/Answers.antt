use Rattle.std.proofs.Common.{◌∙◌, ◌==◌, ap, List}
use Rattle.std.specs.Prelude.{find}
use Rattle.world_rows.specs.declared.subscription.Subscription.{Subscription}
use Rattle.world_subscriptions.proofs.Entries.{found_is}
use Rattle.world_subscriptions.proofs.subscriptions.Subscriptions.get.Goals as goal

pub returns : goal.returns
returns c =
    c.get-found.ensures
    ∙ found_is c.args.id c.self.inside.by_id c.self.invariant.0.0
    ∙ ap (λ (ss : List Subscription). find (λ (s : Subscription). s.id == c.args.id) ss) c.self.view_is
