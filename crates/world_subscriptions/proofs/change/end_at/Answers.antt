use Rattle.std.proofs.Common.{◌∙◌, Option, sym, refl, subst}
use Rattle.world_subscriptions.specs.BySid.{IsWithoutAll}
use Rattle.world_subscriptions.specs.Index.{if_any}
use Rattle.world_rows.specs.declared.subscription.Subscription.{Subscription}
use Rattle.world_subscriptions.proofs.change.end_at.Goals as goal

pub returns-in-None-clause-sids : goal.returns-in-None-clause-sids
returns-in-None-clause-sids c =
    subst (λ (o : Option Subscription). IsWithoutAll c.args.sids.now (if_any o) c.args.sids.now) (sym c.in-None.is ∙ c.take_out.ensures.gone) (λ conn sid. refl)
