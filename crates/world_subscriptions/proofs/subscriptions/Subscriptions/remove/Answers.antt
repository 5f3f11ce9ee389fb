-- what the connection has are the ids of its subscriptions
use Rattle.std.proofs.Common.{◌==◌, ◌∙◌, List, filter, not, sym, ap, subst}
use Rattle.std.specs.Map.{values_of}
use Rattle.world_rows.specs.ids.Sids.{id_in}
use Rattle.world_subscriptions.specs.BySid.{AreSidsOf}
use Rattle.world_rows.specs.declared.subscription.Subscription.{Subscription}
use Rattle.world_subscriptions.proofs.BySid.{none_gone, own_gone, sids_closed}
use Rattle.world_subscriptions.proofs.subscriptions.Subscriptions.remove.Goals as goal

pub returns-in-None : goal.returns-in-None
returns-in-None c =
    let conn = c.args.conn in
    none_gone conn (values_of c.self.inside.by_id) (λ sid. ap (λ o. id_in o sid) c.in-None.ensures.own ∙ c.self.invariant.1.each conn sid)
    ∙ ap (λ (ss : List Subscription). filter (λ (s : Subscription). not (s.conn == conn)) ss) c.self.view_is

pub invariant_of-self-in-Some : goal.invariant_of-self-in-Some
invariant_of-self-in-Some c =
    let conn = c.args.conn in
    let subs = values_of c.self.inside.by_id in
    let left = c.take_each.ensures.left ∙ own_gone conn c.in-Some.own subs c.self.invariant.0.1 c.take_each.ensures.unique (λ sid. ap (λ o. id_in o sid) c.in-Some.ensures.own ∙ c.self.invariant.1.each conn sid) in
    (c.take_each.ensures.table, subst (λ (xs : List Subscription). AreSidsOf xs c.take.new.self) (sym left) (sids_closed conn subs c.self.inside.sids c.take.new.self c.in-Some.ensures.left c.self.invariant.1))

pub returns-in-Some : goal.returns-in-Some
returns-in-Some c =
    let conn = c.args.conn in
    let subs = values_of c.self.inside.by_id in
    c.take_each.ensures.left
    ∙ own_gone conn c.in-Some.own subs c.self.invariant.0.1 c.take_each.ensures.unique (λ sid. ap (λ o. id_in o sid) c.in-Some.ensures.own ∙ c.self.invariant.1.each conn sid)
    ∙ ap (λ (ss : List Subscription). filter (λ (s : Subscription). not (s.conn == conn)) ss) c.self.view_is
