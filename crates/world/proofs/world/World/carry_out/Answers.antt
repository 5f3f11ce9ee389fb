-- a Take leaves the cache of receivers current, and the marks right
use Rattle.std.proofs.Common.{◌≡◌, ◌∙◌, List, sym, subst, refl, ap}
use Rattle.service_exporter.specs.Routes.{Exporter}
use Rattle.service_routes.specs.Routes.{Name, pruned}
use Rattle.service_routes.proofs.Seen.{dead}
use Rattle.world_routing.specs.World.{World}
use Rattle.world_routing.specs.Changing.{changed_by}
use Rattle.world_routing.specs.Handing.{carried}
use Rattle.world_routing.specs.declared.carrying.Routing.{Routing}
use Rattle.world.specs.declared.change.Change.TheVariants.{Route}
use Rattle.policy_ready.specs.imports.Views.{rows_of}
use Rattle.world_sessions.specs.deliveries.Sessions.{drained}
use Rattle.receivers.proofs.cache.Stays.{AreSeated, seats_with, current_taken}
use Rattle.world_routing.proofs.marks.Kept.{marked_seated}
use Rattle.world.specs.Changes.{done, items_in, pruned_world}
use Rattle.world.specs.declared.change.Change.{Change}
use Rattle.world.proofs.world.World.carry_out.Goals as goal

pub invariant_of-self-in-Drain : goal.invariant_of-self-in-Drain
invariant_of-self-in-Drain c =
    let h = c.self-in-Drain.inside in
    let seated : AreSeated h.sessions c.drain.new.self = subst (AreSeated h.sessions) (sym c.drain.ensures) (seats_with (drained c.in-Drain.most) c.in-Drain.conn (λ z. refl) h.sessions) in (
      c.self-in-Drain.invariant.0,
      c.self-in-Drain.invariant.1,
      current_taken h.caches.receivers.cache (rows_of h.ready) h.sessions c.drain.new.self h.subscriptions seated c.self-in-Drain.invariant.2,
      c.self-in-Drain.invariant.3,
      marked_seated h.caches.marks h.sessions c.drain.new.self h.subscriptions seated c.self-in-Drain.invariant.4,
    )

pub returns-in-Leave-clause-ok : goal.returns-in-Leave-clause-ok
returns-in-Leave-clause-ok c = ap pruned_world (c.leave.ensures c.args.outcome.now) ∙ ap (λ (change : Change). done (pruned_world c.args.self.now) change c.args.outcome.now) (sym c.in-Leave.is)

pub returns-in-Limit-clause-ok : goal.returns-in-Limit-clause-ok
returns-in-Limit-clause-ok c = ap pruned_world (c.limit.ensures c.args.outcome.now) ∙ ap (λ (change : Change). done (pruned_world c.args.self.now) change c.args.outcome.now) (sym c.in-Limit.is)

pub returns-in-Install-clause-ok : goal.returns-in-Install-clause-ok
returns-in-Install-clause-ok c = c.install.ensures c.args.outcome.now ∙ ap (λ (change : Change). done (pruned_world c.args.self.now) change c.args.outcome.now) (sym c.in-Install.is)

pub returns-in-Deliver-clause-ok : goal.returns-in-Deliver-clause-ok
returns-in-Deliver-clause-ok c = ap pruned_world c.deliver.ensures ∙ ap (λ (change : Change). done (pruned_world c.args.self.now) change c.args.outcome.now) (sym c.in-Deliver.is)

-- deliveries are handed over, and routes have changed
pub returns-in_ok-change_routes-in-Route-clause-ok : goal.returns-in_ok-change_routes-in-Route-clause-ok
returns-in_ok-change_routes-in-Route-clause-ok c =
    let h = c.self.inside in
    let all = h.routes.exporters in
    let told = c.args.outcome.now in
    let r : Routing = c.into_inner-deliveries.result in
    let gone : (all : List (Name × Exporter)) → pruned h.moment (pruned h.routes_at all) ≡ pruned h.moment all = λ all. dead h.routes_at h.moment all c.self.invariant.1 in
    let routes : pruned h.moment (pruned h.routes_at c.change_routes.new.routes.exporters) ≡ changed_by r.routes (pruned h.moment (pruned h.routes_at all)) =
    gone c.change_routes.new.routes.exporters ∙ c.in_ok-change_routes-in-Route.ensures.ok ∙ ap (changed_by r.routes) (sym (gone all)) in
    let before : World = record { capacity = h.capacity; policy = h.ready; epoch = h.epoch; moment = h.moment; sessions = h.sessions; subscriptions = h.subscriptions; routes = pruned h.routes_at all; number = h.number } in
    let by_table : List (Name × Exporter) → World = λ table. record (carried (pruned_world before) r.deliveries.answered r.deliveries.all (items_in told)) { routes = table } in
    let by_routing : Routing → World = λ x. done (pruned_world before) (Route x) told in
    ap pruned_world c.deliver-in-Route.ensures
    ∙ ap by_table routes
    ∙ ap by_routing c.into_inner-deliveries.ensures
    ∙ ap (λ (w : World). done (pruned_world w) (Route c.in-Route.routing) told) c.self.view_is
    ∙ ap (λ (change : Change). done (pruned_world c.args.self.now) change told) (sym c.in-Route.is)
