-- what is planned is what the transition makes of the message
use Rattle.std.proofs.Common.{◌≡◌, ◌∙◌, [], List, Result, Ok, ap, sym, subst}
use Rattle.events.specs.declared.answer.Outcome.TheVariants.{Denied, Published}
use Rattle.events.specs.declared.event.Command.TheVariants.{Pub}
use Rattle.events.specs.declared.refusal.HubRefusal.{HubRefusal}
use Rattle.std.specs.Prelude.{IfOk, IfSome}
use Rattle.std.proofs.lemmas.Result.{err_from_is_err_and}
use Rattle.subjects.specs.Subject.{Token}
use Rattle.permissions.specs.Verdicts.{publish_verdict, IsJustifiedPublish}
use Rattle.world_sessions.specs.deliveries.Sessions.{session_of}
use Rattle.world_sessions.specs.declared.deliveries.session.Session.{Session}
use Rattle.world.specs.Transition.{IsReasoned}
use Rattle.world_routing.specs.World.{World}
use Rattle.service_routes.specs.Routes.{pruned}
use Rattle.service_routes.proofs.Seen.{dead}
use Rattle.world_routing.specs.Publishing.{published_by, tables_of, IsPlanned}
use Rattle.world_routing.specs.Viewing.{tables_at}
use Rattle.world_routing.specs.declared.planning.Plan.{Plan}
use Rattle.world.specs.Changes.{pruned_world, IsDecided}
use Rattle.world.specs.declared.change.Decided.{Decided}
use Rattle.world.proofs.Publishing.{nothing_is, deliver_is, refused_is, route_is}
use Rattle.world.proofs.world.World.publish.Goals.{in-Refused, in-ToNobody, in-ToSome, in-OnRoutes}
use Rattle.world.proofs.world.World.publish.Goals as goal

pub returns-clause-decided : goal.returns-clause-decided
returns-clause-decided c =
    let h = c.self.inside in
    let world : World = c.args.self.now in
    let before : World = record { capacity = h.capacity; policy = h.ready; epoch = h.epoch; moment = h.moment; sessions = h.sessions; subscriptions = h.subscriptions; routes = pruned h.routes_at h.routes.exporters; number = h.number } in
    let now : World = pruned_world before in
    let gone : pruned h.moment (pruned h.routes_at h.routes.exporters) ≡ pruned h.moment h.routes.exporters = dead h.routes_at h.moment h.routes.exporters c.self.invariant.1 in
    let of : tables_of now ≡ tables_at h.ready h.moment h.sessions h.subscriptions h.routes.exporters =
    (λ i. record { policy = h.ready; now = h.moment; sessions = h.sessions; subscriptions = h.subscriptions; routes = gone i }) in
    let same : now ≡ pruned_world world = ap pruned_world c.self.view_is in
    let P : Result Decided HubRefusal → Type 0 = λ r. IsDecided (pruned_world world) (published_by (pruned_world world) c.args.conn c.args.message.now c.args.word) r in
    let Q : Plan → Type 0 = λ plan. IsPlanned now (published_by now c.args.conn c.args.message.now c.args.word) (Ok plan) in
    let planned : Q c.in_ok-verdict.field-0 = c.in_ok-verdict.ensures.planned now of in
    elim c.match-branch-2.branch [
      | in-Refused w ↦ subst P (sym w.result-is)
          (nothing_is now (pruned_world world) same c.args.conn c.args.message.now c.args.word w.unchanged.result (Denied w.in-Refused.verdict)
          w.unchanged.ensures.outcome w.unchanged.ensures.change (subst Q w.in-Refused.is planned))
      | in-ToNobody w ↦ subst P (sym w.result-is)
          (nothing_is now (pruned_world world) same c.args.conn c.args.message.now c.args.word w.unchanged-in-ToNobody.result (Published w.in-ToNobody.by [])
          (w.unchanged-in-ToNobody.ensures.outcome ∙ ap (Published w.in-ToNobody.by) (w.from_vec-nobody.ensures ∙ w.new.ensures.items))
          w.unchanged-in-ToNobody.ensures.change (subst Q w.in-ToNobody.is planned))
      | in-ToSome w ↦ subst P (sym w.result-is)
          (deliver_is now (pruned_world world) same c.args.conn c.args.message.now c.args.word w.in-ToSome.by w.in-ToSome.items w.in-ToSome.deliveries
          (subst Q w.in-ToSome.is planned))
      | in-OnRoutes w ↦ subst P (sym w.result-is)
          (route_is now (pruned_world world) same c.args.conn c.args.message.now c.args.word w.in-OnRoutes.by w.in-OnRoutes.items w.in-OnRoutes.routing
          (subst Q w.in-OnRoutes.is planned))
    ]

pub returns-in_err-verdict-clause-decided : goal.returns-in_err-verdict-clause-decided
returns-in_err-verdict-clause-decided c =
    let h = c.self.inside in
    let world : World = c.args.self.now in
    let before : World = record { capacity = h.capacity; policy = h.ready; epoch = h.epoch; moment = h.moment; sessions = h.sessions; subscriptions = h.subscriptions; routes = pruned h.routes_at h.routes.exporters; number = h.number } in
    let now : World = pruned_world before in
    let gone : pruned h.moment (pruned h.routes_at h.routes.exporters) ≡ pruned h.moment h.routes.exporters = dead h.routes_at h.moment h.routes.exporters c.self.invariant.1 in
    let of : tables_of now ≡ tables_at h.ready h.moment h.sessions h.subscriptions h.routes.exporters =
    (λ i. record { policy = h.ready; now = h.moment; sessions = h.sessions; subscriptions = h.subscriptions; routes = gone i }) in
    let same : now ≡ pruned_world world = ap pruned_world c.self.view_is in
    let p = err_from_is_err_and c.from_residual.result c.from_residual.ensures.1 in
    rw (p.1, p.2) (refused_is now (pruned_world world) same c.args.conn c.args.message.now c.args.word _ (c.in_err-verdict.ensures.planned now of))

-- the verdict on it has its reason, whatever is planned
pub returns-clause-reason : goal.returns-clause-reason
returns-clause-reason c =
    let conn = c.args.conn in
    let s : List Token = c.args.message.now.subject in
    let Has : World → Type 0 = λ w. IfSome (session_of w.sessions conn) (λ (z : Session). IsJustifiedPublish s z.user.rules.publish (publish_verdict z.user.rules s)) in
    let reason : Has c.args.self.now = subst Has c.self.view_is c.in_ok-verdict.ensures.reason in
    let R : Result Decided HubRefusal → Type 0 = λ r. IfOk r (λ (d : Decided). IsReasoned c.args.self.now (Pub conn c.args.message.now c.args.word) d.outcome) in
    elim c.match-branch-2.branch [
      | in-Refused w ↦ subst R (sym w.result-is) reason
      | in-ToNobody w ↦ subst R (sym w.result-is) reason
      | in-ToSome w ↦ subst R (sym w.result-is) reason
      | in-OnRoutes w ↦ subst R (sym w.result-is) reason
    ]
