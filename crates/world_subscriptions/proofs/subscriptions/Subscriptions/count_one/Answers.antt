-- a change of the entry of that id, which goes where it has ended, and its sid with it
use Rattle.std.proofs.Common.{◌∙◌, ap, sym, refl, subst, List, map, filter}
use Rattle.std.specs.Map.{values_of}
use Rattle.world_rows.specs.declared.subscription.Subscription.{Subscription}
use Rattle.world_subscriptions.specs.BySid.{IsWithoutAll, AreSidsOf}
use Rattle.world_subscriptions.specs.Changes.{only, bumped}
use Rattle.world_subscriptions.specs.Index.{AreIndexesOf}
use Rattle.world_subscriptions.specs.Kept.{IsKept, Apart}
use Rattle.world_subscriptions.specs.Limit.{has_ended, unended}
use Rattle.world_subscriptions.proofs.Apart.{apart_changed, bumped-leaves}
use Rattle.world_subscriptions.proofs.BySid.{sids_ended}
use Rattle.world_subscriptions.proofs.Ends.{ended_at, on_at, kept_on, kept_over, one_ends, none_ends}
use Rattle.world_subscriptions.proofs.Entries.{Entries}
use Rattle.world_subscriptions.proofs.Indexed.{indexes_on, indexes_over, bumped-is_of}
use Rattle.world_subscriptions.proofs.subscriptions.Subscriptions.count_one.Goals as goal

pub invariant_of-self : goal.invariant_of-self
invariant_of-self c =
    let f = bumped in
    let id = c.args.id in
    let es = c.self.inside.by_id in
    let table = c.self.invariant.0 in
    let now = ap (λ (xs : Entries). values_of xs) c.end_at.ensures.entries ∙ ended_at f id es c.bump.new.self table.0 c.bump.result c.bump.ensures c.if-bump.true in
    let gone = subst (λ (xs : List Subscription). IsWithoutAll c.self.inside.sids xs c.end_at.new.sids) (one_ends f id es c.bump.new.self table.0 c.bump.result c.bump.ensures c.if-bump.true) c.end_at.ensures.sids in (
      (
        subst IsKept (sym c.end_at.ensures.entries) (kept_over f id es c.bump.new.self table.0 c.bump.result c.bump.ensures c.if-bump.true),
        subst Apart (sym now) (apart_changed f id (values_of es) bumped-leaves table.1),
        subst (λ (xs : Entries). AreIndexesOf (values_of xs) c.end_at.new.trees) (sym c.end_at.ensures.entries)
            (indexes_over f bumped-is_of id es c.bump.new.self table.0 c.bump.result c.self.inside.trees table.2 c.end_at.new.trees c.bump.ensures c.if-bump.true c.end_at.ensures.trees),
      ),
      subst (λ (xs : List Subscription). AreSidsOf xs c.end_at.new.sids) (sym now)
          (sids_ended f id (values_of es) (filter has_ended (map (only f id) (values_of es))) c.self.inside.sids c.end_at.new.sids bumped-leaves table.1 refl gone c.self.invariant.1),
    )

pub invariant_of-self-else-bump : goal.invariant_of-self-else-bump
invariant_of-self-else-bump c =
    let f = bumped in
    let id = c.args.id in
    let es = c.self.inside.by_id in
    let table = c.self.invariant.0 in
    let sids = c.self.inside.sids in
    let now = on_at f id es c.bump.new.self table.0 c.bump.result c.bump.ensures c.if-bump.false in
    let gone = subst (λ (xs : List Subscription). IsWithoutAll sids xs sids) (none_ends f id es c.bump.new.self table.0 c.bump.result c.bump.ensures c.if-bump.false) (λ conn sid. refl) in (
      (
        kept_on f id es c.bump.new.self table.0 c.bump.result (bumped-leaves).id c.bump.ensures c.if-bump.false,
        subst Apart (sym now) (apart_changed f id (values_of es) bumped-leaves table.1),
        indexes_on f bumped-is_of id es c.bump.new.self table.0 c.bump.result c.self.inside.trees table.2 c.bump.ensures c.if-bump.false,
      ),
      subst (λ (xs : List Subscription). AreSidsOf xs sids) (sym now)
          (sids_ended f id (values_of es) (filter has_ended (map (only f id) (values_of es))) sids sids bumped-leaves table.1 refl gone c.self.invariant.1),
    )

pub returns-then-bump : goal.returns-then-bump
returns-then-bump c =
    ap (λ (xs : Entries). values_of xs) c.end_at.ensures.entries
    ∙ ended_at bumped c.args.id c.self.inside.by_id c.bump.new.self c.self.invariant.0.0 c.bump.result c.bump.ensures c.if-bump.true
    ∙ ap (λ (ss : List Subscription). unended (map (only bumped c.args.id) ss)) c.self.view_is

pub returns-else-bump : goal.returns-else-bump
returns-else-bump c =
    on_at bumped c.args.id c.self.inside.by_id c.bump.new.self c.self.invariant.0.0 c.bump.result c.bump.ensures c.if-bump.false
    ∙ ap (λ (ss : List Subscription). unended (map (only bumped c.args.id) ss)) c.self.view_is
