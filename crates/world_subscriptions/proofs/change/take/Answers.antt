use Rattle.std.proofs.Common.{◌∙◌, ◌==◌, not, filter, List, ap, sym, subst}
use Rattle.std.specs.Map.{values_of}
use Rattle.world_rows.specs.declared.subscription.Subscription.{Subscription}
use Rattle.world_subscriptions.specs.Index.{AreIndexesOf}
use Rattle.world_subscriptions.specs.Kept.{IsKept, Apart}
use Rattle.world_subscriptions.proofs.Apart.{apart_kept}
use Rattle.world_subscriptions.proofs.Entries.{Entries, removed-filter, values-filter, kept-filter}
use Rattle.world_subscriptions.proofs.Indexed.{indexes_without}
use Rattle.world_subscriptions.proofs.change.take.Goals as goal

pub returns-clause-table : goal.returns-clause-table
returns-clause-table c =
    let es = c.args.by_id.now in
    let now = c.take_out-gone.ensures.entries ∙ removed-filter c.args.id es c.requires.0 in
    let left = ap (λ (xs : Entries). values_of xs) now ∙ values-filter (λ s. not (s.id == c.args.id)) es in (
      subst IsKept (sym now) (kept-filter (λ e. not (e.1.id == c.args.id)) es c.requires.0),
      subst Apart (sym left) (apart_kept (λ s. not (s.id == c.args.id)) (values_of es) c.requires.1),
      subst (λ (xs : List Subscription). AreIndexesOf xs c.take_out-gone.new.trees) (sym left) (indexes_without c.args.id es c.args.trees.now c.take_out-gone.new.trees c.requires.0 c.requires.1 c.take_out-gone.ensures.trees c.requires.2),
    )

pub returns-clause-left : goal.returns-clause-left
returns-clause-left c =
    let es = c.args.by_id.now in
    ap (λ (xs : Entries). values_of xs) (c.take_out-gone.ensures.entries ∙ removed-filter c.args.id es c.requires.0)
    ∙ values-filter (λ s. not (s.id == c.args.id)) es
