use Rattle.std.proofs.Common.{◌≡◌, ◌∙◌, ◌<◌, ◌++◌, ◌∷◌, [], sym, ap, subst, List, All, false}
use Rattle.std.specs.Map.{values_of}
use Rattle.world_subscriptions.specs.BySid.{IsWith, IsWithout, AreSidsOf}
use Rattle.world_subscriptions.specs.Subscriptions.{subscription_of, stands}
use Rattle.world_rows.specs.declared.subscription.Subscription.{Subscription}
use Rattle.world_subscriptions.proofs.BySid.{sids_added, sids_undone}
use Rattle.world_subscriptions.proofs.subscriptions.Subscriptions.add.Goals as goal

pub invariant_of-self-in-Ok : goal.invariant_of-self-in-Ok
invariant_of-self-in-Ok c =
    let subs = values_of c.self.inside.by_id in
    let s = subscription_of c.args.id c.args.wanted.conn c.args.wanted.account c.args.wanted.subject c.args.wanted.queue c.args.wanted.sid in
    let free : stands subs s.conn s.sid ≡ false = ap (λ (xs : List Subscription). stands xs s.conn s.sid) c.self.view_is ∙ c.requires.free in
    let more : IsWith c.self.inside.sids s c.insert.new.sids = subst (λ (x : Subscription). IsWith c.self.inside.sids x c.insert.new.sids) c.in_ok-subscription.ensures c.in_ok-insert.ensures.ok in (
      c.enter.ensures.table,
      subst (λ (xs : List Subscription). AreSidsOf xs c.insert.new.sids) (sym (c.in-Ok.ensures.ok ∙ ap (λ (x : Subscription). subs ++ x ∷ []) c.in_ok-subscription.ensures)) (sids_added subs s free c.self.inside.sids c.insert.new.sids more c.self.invariant.1),
    )

-- the rows or the trees have refused it, so its sid is taken out again
pub invariant_of-self-in-Err : goal.invariant_of-self-in-Err
invariant_of-self-in-Err c =
    let subs = values_of c.self.inside.by_id in
    let s = subscription_of c.args.id c.args.wanted.conn c.args.wanted.account c.args.wanted.subject c.args.wanted.queue c.args.wanted.sid in
    let free : stands subs s.conn s.sid ≡ false = ap (λ (xs : List Subscription). stands xs s.conn s.sid) c.self.view_is ∙ c.requires.free in
    let more : IsWith c.self.inside.sids s c.insert.new.sids = subst (λ (x : Subscription). IsWith c.self.inside.sids x c.insert.new.sids) c.in_ok-subscription.ensures c.in_ok-insert.ensures.ok in
    let less : IsWithout c.insert.new.sids s c.remove.new.sids = subst (λ (x : Subscription). IsWithout c.insert.new.sids x c.remove.new.sids) (c.in-Err.ensures.back ∙ c.in_ok-subscription.ensures) c.remove.ensures in (
      c.enter.ensures.table,
      subst (λ (xs : List Subscription). AreSidsOf xs c.remove.new.sids) (sym c.in-Err.ensures.err)
          (sids_undone subs s free c.self.inside.sids c.insert.new.sids c.remove.new.sids more less c.self.invariant.1),
    )
