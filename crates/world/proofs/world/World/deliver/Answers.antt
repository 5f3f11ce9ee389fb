-- what is cached stays current, and each that stands keeps its marks
use Rattle.std.proofs.Common.{List, sym, subst}
use Rattle.policy_ready.specs.imports.Views.{rows_of}
use Rattle.world_rows.specs.declared.subscription.Subscription.{Subscription}
use Rattle.world_subscriptions.specs.Counting.{entered_ids}
use Rattle.receivers.specs.views.Marked.{AreMarked}
use Rattle.receivers.proofs.cache.Stays.{AreSeated}
use Rattle.world_routing.proofs.Delivering.{seated_handed}
use Rattle.world_routing.proofs.marks.Kept.{marked_seated, marked_in_turn}
use Rattle.world.proofs.world.World.deliver.Goals as goal

pub invariant_of-self : goal.invariant_of-self
invariant_of-self c =
    let h = c.self.inside in
    let ds = c.args.deliveries in (
      c.self.invariant.0,
      c.self.invariant.1,
      c.carry_publish.ensures.cached (rows_of h.ready) c.self.invariant.2,
      c.self.invariant.3,
      marked_seated h.caches.marks h.sessions c.carry_publish.new.sessions c.carry_publish.new.subscriptions
          (subst (AreSeated h.sessions) (sym c.carry_publish.ensures.sessions) (seated_handed h.moment ds.answered ds.all h.sessions))
          (subst (λ (subs : List Subscription). AreMarked h.sessions subs h.caches.marks) (sym c.carry_publish.ensures.subscriptions)
          (marked_in_turn h.caches.marks h.sessions (entered_ids ds.all c.items_in.result.now) h.subscriptions c.self.invariant.4)),
    )
