-- those of other sessions keep their marks
use Rattle.std.proofs.Common.{◌==◌, List, filter, not, sym, subst}
use Rattle.world_sessions.specs.declared.deliveries.session.Session.{Session}
use Rattle.world_rows.specs.declared.subscription.Subscription.{Subscription}
use Rattle.receivers.specs.views.Marked.{AreMarked}
use Rattle.receivers.proofs.cache.Told.{empty_current}
use Rattle.policy_ready.specs.imports.Views.{rows_of}
use Rattle.world_routing.proofs.marks.Kept.{marked_left}
use Rattle.world.proofs.world.World.leave.Goals as goal

pub invariant_of-self : goal.invariant_of-self
invariant_of-self c =
    let h = c.self.inside in (
      c.self.invariant.0,
      c.self.invariant.1,
      empty_current c.clear_cache.new.self.cache (rows_of h.ready) c.remove.new.self c.remove-2.new.self c.clear_cache.ensures,
      c.self.invariant.3,
      c.trim_marks.ensures.kept c.remove.new.self
          (subst (λ (zs : List Session). AreMarked zs c.remove-2.new.self h.caches.marks) (sym c.remove.ensures)
          (subst (λ (subs : List Subscription). AreMarked (filter (λ (z : Session). not (z.conn == c.args.conn)) h.sessions) subs h.caches.marks) (sym c.remove-2.ensures)
          (marked_left h.caches.marks h.sessions c.args.conn h.subscriptions c.prove_invariant.ensures c.self.invariant.4))),
    )
