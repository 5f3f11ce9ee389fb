-- without the ids of those that don't stand on, the others are left
use Rattle.std.proofs.Common.{◌∙◌, ap, List, ℕ}
use Rattle.world.specs.Reload.{stands_on}
use Rattle.world_subscriptions.proofs.BySid.{without, passing_left}
use Rattle.world.proofs.Losing.{lost_ids}
use Rattle.world.proofs.reload.remove_lost.Goals as goal

pub returns : goal.returns
returns c = λ doc zs is.
    c.remove_each.ensures
    ∙ ap (λ (ids : List ℕ). without ids c.args.subscriptions.now) (is ∙ lost_ids (stands_on doc zs) c.args.subscriptions.now)
    ∙ passing_left (stands_on doc zs) c.args.subscriptions.now c.prove_invariant.ensures.apart
