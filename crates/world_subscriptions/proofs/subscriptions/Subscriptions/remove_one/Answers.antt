-- one is taken out by its id, and its sid goes with it
use Rattle.std.proofs.Common.{◌≡◌, ◌∙◌, ◌==◌, Bool, true, false, not, filter, List, ap, sym, refl, subst}
use Rattle.std.specs.Map.{values_of}
use Rattle.world_rows.specs.declared.subscription.Subscription.{Subscription}
use Rattle.world_subscriptions.specs.BySid.{IsWithoutAll, AreSidsOf}
use Rattle.world_subscriptions.specs.Index.{AreIndexesOf}
use Rattle.world_subscriptions.specs.Kept.{IsKept, Apart}
use Rattle.world_subscriptions.proofs.Apart.{apart_kept}
use Rattle.world_subscriptions.proofs.BySid.{sids_kept}
use Rattle.world_subscriptions.proofs.Entries.{Entries, removed-filter, values-filter, kept-filter}
use Rattle.world_subscriptions.proofs.Indexed.{indexes_without, those_of_id}
use Rattle.world_subscriptions.proofs.subscriptions.Subscriptions.remove_one.Goals as goal

back : (b : Bool) → b ≡ not (not b)
back true = refl
back false = refl

pub invariant_of-self : goal.invariant_of-self
invariant_of-self c =
    let id = c.args.id in
    let es = c.self.inside.by_id in
    let table = c.self.invariant.0 in
    let now = c.end_at.ensures.entries ∙ removed-filter id es table.0 in
    let left = ap (λ (xs : Entries). values_of xs) now ∙ values-filter (λ s. not (s.id == id)) es in
    let gone = subst (λ (xs : List Subscription). IsWithoutAll c.self.inside.sids xs c.end_at.new.sids) (sym (those_of_id id es table.0)) c.end_at.ensures.sids in (
      (
        subst IsKept (sym now) (kept-filter (λ e. not (e.1.id == id)) es table.0),
        subst Apart (sym left) (apart_kept (λ s. not (s.id == id)) (values_of es) table.1),
        subst (λ (xs : List Subscription). AreIndexesOf xs c.end_at.new.trees) (sym left) (indexes_without id es c.self.inside.trees c.end_at.new.trees table.0 table.1 c.end_at.ensures.trees table.2),
      ),
      subst (λ (xs : List Subscription). AreSidsOf xs c.end_at.new.sids) (sym left)
          (sids_kept (λ s. not (s.id == id)) (λ s. s.id == id) (λ s. back (s.id == id)) (values_of es) c.self.inside.sids c.end_at.new.sids table.1 gone c.self.invariant.1),
    )

pub returns : goal.returns
returns c =
    let es = c.self.inside.by_id in
    ap (λ (xs : Entries). values_of xs) (c.end_at.ensures.entries ∙ removed-filter c.args.id es c.self.invariant.0.0)
    ∙ values-filter (λ s. not (s.id == c.args.id)) es
    ∙ ap (λ (ss : List Subscription). filter (λ (s : Subscription). not (s.id == c.args.id)) ss) c.self.view_is
