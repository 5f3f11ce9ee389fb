-- the ids are those of the subscriptions that don't stand on, so the others are left
use Rattle.std.proofs.Common.{◌≡◌, ◌∙◌, ◌+◌, List, ap, sym, subst, rules}
use Rattle.std.specs.List.{filter_map}
use Rattle.service_exporter.specs.Routes.{Exporter}
use Rattle.service_routes.specs.Routes.{Name, kept, pruned}
use Rattle.service_routes.proofs.Seen.{dead}
use Rattle.service_routes.specs.service_rows.Rows.{renewed}
use Rattle.world_sessions.specs.declared.deliveries.session.Session.{Session}
use Rattle.world_sessions.specs.Renewal.{remaining}
use Rattle.world_rows.specs.declared.subscription.Subscription.{Subscription}
use Rattle.receivers.specs.views.Marked.{AreMarked}
use Rattle.world_routing.proofs.marks.Kept.{marked_filter}
use Rattle.world.specs.Reload.{stands_on}
use Rattle.world.specs.Changes.{done, lost_id, pruned_world}
use Rattle.world_routing.specs.World.{World}
use Rattle.world.specs.declared.change.Change.TheVariants.{Install}
use Rattle.world.proofs.world.World.install.Goals as goal

pub returns : goal.returns
returns c = λ told.
    let h = c.self.inside in
    let doc = c.args.ready in
    let ids = c.as_slice.ensures.value ∙ c.requires.lost ∙ ap (λ (w : World). filter_map (lost_id doc w.sessions) w.subscriptions) (sym c.self.view_is) in
    let subs = c.remove_lost.ensures doc h.sessions ids in
    let zs = c.renew.ensures in
    let table : List (Name × Exporter) → List (Name × Exporter) = λ all. pruned h.moment (kept (renewed h.ready doc) all) in
    let gone : (all : List (Name × Exporter)) → pruned h.moment (pruned h.routes_at all) ≡ pruned h.moment all = λ all. dead h.routes_at h.moment all c.self.invariant.1 in
    let routes : pruned h.moment (pruned h.routes_at c.keep_routes.new.routes.exporters) ≡ table (pruned h.moment (pruned h.routes_at h.routes.exporters)) =
    gone c.keep_routes.new.routes.exporters ∙ ap (pruned h.moment) c.keep_routes.ensures ∙ ap table (sym (gone h.routes.exporters)) in
    (λ i. record { capacity = h.capacity; policy = doc; epoch = h.epoch + 1; moment = h.moment; sessions = zs i; subscriptions = subs i; routes = routes i; number = h.number })
    ∙ ap (λ (w : World). done (pruned_world w) (Install doc c.args.users c.args.lost c.args.marks) told) c.self.view_is

-- those that stand on have these marks
pub invariant_of-self : goal.invariant_of-self
invariant_of-self c =
    let h = c.self.inside in
    let ids = c.as_slice.ensures.value ∙ c.requires.lost ∙ ap (λ (w : World). filter_map (lost_id c.args.ready w.sessions) w.subscriptions) (sym c.self.view_is) in
    let subs = c.remove_lost.ensures c.args.ready h.sessions ids in
    let marked : AreMarked (remaining h.moment c.args.ready h.sessions) h.subscriptions c.args.marks =
    subst (λ (w : World). AreMarked (remaining w.moment c.args.ready w.sessions) w.subscriptions c.args.marks) (sym c.self.view_is) c.requires.marks in (
      c.self.invariant.0,
      search rules,
      search rules,
      search rules,
      subst (λ (zs : List Session). AreMarked zs c.remove_lost.new.subscriptions c.args.marks) (sym c.renew.ensures)
          (subst (λ (all : List Subscription). AreMarked (remaining h.moment c.args.ready h.sessions) all c.args.marks) (sym subs)
          (marked_filter c.args.marks (remaining h.moment c.args.ready h.sessions) (stands_on c.args.ready h.sessions) h.subscriptions marked)),
    )
