-- the others keep their marks
use Rattle.std.proofs.Common.{List, sym, subst}
use Rattle.policy_ready.specs.imports.Views.{rows_of}
use Rattle.world_rows.specs.declared.subscription.Subscription.{Subscription}
use Rattle.receivers.specs.views.Marked.{AreMarked}
use Rattle.receivers.proofs.cache.Told.{empty_current}
use Rattle.world_routing.proofs.marks.Kept.{marked_limited}
use Rattle.world.proofs.world.World.limit.Goals as goal

pub invariant_of-self : goal.invariant_of-self
invariant_of-self c =
    let h = c.self.inside in (
      c.self.invariant.0,
      c.self.invariant.1,
      empty_current c.clear_cache.new.self.cache (rows_of h.ready) h.sessions c.limit.new.self c.clear_cache.ensures,
      c.self.invariant.3,
      subst (λ (subs : List Subscription). AreMarked h.sessions subs h.caches.marks) (sym c.limit.ensures)
          (marked_limited h.caches.marks h.sessions c.args.conn c.args.sid.now c.args.most h.subscriptions c.self.invariant.4),
    )
