-- what is retained is what is kept
use Rattle.std.proofs.Common.{◌∙◌, ap, sym, map, rules}
use Rattle.std.proofs.lemmas.Fn.{filter_same}
use Rattle.world_rows.specs.declared.subscription.Subscription.{Subscription}
use Rattle.world_subscriptions.specs.groups.Chosen.{is_kept_alone}
use Rattle.world_subscriptions.proofs.groups.Chosen.{filter-map}
use Rattle.world_subscriptions.proofs.groups.groups.keep_alone.Goals as goal

pub returns : goal.returns
returns c =
    ap (map (λ s. s.now)) (filter_same _ (λ s. is_kept_alone c.args.id s.now.id s.now.queue) _ (λ x b f' called. search rules) _ _ c.retain.ensures.filtered)
    ∙ sym (filter-map (λ (s : Subscription). is_kept_alone c.args.id s.id s.queue) (λ s. s.now) c.args.all.now.items)
