-- a change of the entry of that id, which goes where it has ended, and its sid with it
use Rattle.std.proofs.Common.{◌∙◌, ap, sym, refl, subst, List, map, filter}
use Rattle.std.specs.Map.{values_of}
use Rattle.world_rows.specs.declared.subscription.Subscription.{Subscription}
use Rattle.world_subscriptions.specs.BySid.{IsWithoutAll, AreSidsOf}
use Rattle.world_subscriptions.specs.Changes.{only, capped}
use Rattle.world_subscriptions.specs.Index.{AreIndexesOf}
use Rattle.world_subscriptions.specs.Kept.{IsKept, Apart}
use Rattle.world_subscriptions.specs.Limit.{has_ended, unended}
use Rattle.world_subscriptions.proofs.Apart.{apart_changed, capped-leaves}
use Rattle.world_subscriptions.proofs.BySid.{sids_ended}
use Rattle.world_subscriptions.proofs.Ends.{ended_at, on_at, kept_on, kept_over, one_ends, none_ends}
use Rattle.world_subscriptions.proofs.Entries.{Entries}
use Rattle.world_subscriptions.proofs.Indexed.{indexes_on, indexes_over, capped-is_of}
use Rattle.world_subscriptions.proofs.subscriptions.Subscriptions.limit_one.Goals as goal

pub invariant_of-self : goal.invariant_of-self
invariant_of-self c =
    let f = capped c.args.most in
    let id = c.args.id in
    let es = c.self.inside.by_id in
    let table = c.self.invariant.0 in
    let now = ap (λ (xs : Entries). values_of xs) c.end_at.ensures.entries ∙ ended_at f id es c.cap.new.self table.0 c.cap.result c.cap.ensures c.if-cap.true in
    let gone = subst (λ (xs : List Subscription). IsWithoutAll c.self.inside.sids xs c.end_at.new.sids) (one_ends f id es c.cap.new.self table.0 c.cap.result c.cap.ensures c.if-cap.true) c.end_at.ensures.sids in (
      (
        subst IsKept (sym c.end_at.ensures.entries) (kept_over f id es c.cap.new.self table.0 c.cap.result c.cap.ensures c.if-cap.true),
        subst Apart (sym now) (apart_changed f id (values_of es) (capped-leaves c.args.most) table.1),
        subst (λ (xs : Entries). AreIndexesOf (values_of xs) c.end_at.new.trees) (sym c.end_at.ensures.entries)
            (indexes_over f (capped-is_of c.args.most) id es c.cap.new.self table.0 c.cap.result c.self.inside.trees table.2 c.end_at.new.trees c.cap.ensures c.if-cap.true c.end_at.ensures.trees),
      ),
      subst (λ (xs : List Subscription). AreSidsOf xs c.end_at.new.sids) (sym now)
          (sids_ended f id (values_of es) (filter has_ended (map (only f id) (values_of es))) c.self.inside.sids c.end_at.new.sids (capped-leaves c.args.most) table.1 refl gone c.self.invariant.1),
    )

pub invariant_of-self-else-cap : goal.invariant_of-self-else-cap
invariant_of-self-else-cap c =
    let f = capped c.args.most in
    let id = c.args.id in
    let es = c.self.inside.by_id in
    let table = c.self.invariant.0 in
    let sids = c.self.inside.sids in
    let now = on_at f id es c.cap.new.self table.0 c.cap.result c.cap.ensures c.if-cap.false in
    let gone = subst (λ (xs : List Subscription). IsWithoutAll sids xs sids) (none_ends f id es c.cap.new.self table.0 c.cap.result c.cap.ensures c.if-cap.false) (λ conn sid. refl) in (
      (
        kept_on f id es c.cap.new.self table.0 c.cap.result ((capped-leaves c.args.most)).id c.cap.ensures c.if-cap.false,
        subst Apart (sym now) (apart_changed f id (values_of es) (capped-leaves c.args.most) table.1),
        indexes_on f (capped-is_of c.args.most) id es c.cap.new.self table.0 c.cap.result c.self.inside.trees table.2 c.cap.ensures c.if-cap.false,
      ),
      subst (λ (xs : List Subscription). AreSidsOf xs sids) (sym now)
          (sids_ended f id (values_of es) (filter has_ended (map (only f id) (values_of es))) sids sids (capped-leaves c.args.most) table.1 refl gone c.self.invariant.1),
    )

pub returns-then-cap : goal.returns-then-cap
returns-then-cap c =
    ap (λ (xs : Entries). values_of xs) c.end_at.ensures.entries
    ∙ ended_at (capped c.args.most) c.args.id c.self.inside.by_id c.cap.new.self c.self.invariant.0.0 c.cap.result c.cap.ensures c.if-cap.true
    ∙ ap (λ (ss : List Subscription). unended (map (only (capped c.args.most) c.args.id) ss)) c.self.view_is

pub returns-else-cap : goal.returns-else-cap
returns-else-cap c =
    on_at (capped c.args.most) c.args.id c.self.inside.by_id c.cap.new.self c.self.invariant.0.0 c.cap.result c.cap.ensures c.if-cap.false
    ∙ ap (λ (ss : List Subscription). unended (map (only (capped c.args.most) c.args.id) ss)) c.self.view_is
