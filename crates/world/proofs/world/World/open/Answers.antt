-- each that stands has a session already
use Rattle.std.proofs.Common.{List, sym, subst}
use Rattle.policy_ready.specs.imports.Views.{rows_of}
use Rattle.world_sessions.specs.declared.deliveries.session.Session.{Session}
use Rattle.world_routing.specs.World.{World}
use Rattle.receivers.specs.views.Marked.{AreMarked}
use Rattle.receivers.proofs.cache.Told.{empty_current}
use Rattle.world_routing.proofs.marks.Kept.{marked_opened}
use Rattle.world.specs.Reload.{AllMayStand}
use Rattle.world.proofs.Losing.{have_sessions}
use Rattle.world.proofs.world.World.open.Goals as goal

pub invariant_of-self-2 : goal.invariant_of-self-2
invariant_of-self-2 c =
    let h = c.self.inside in
    let may : AllMayStand h.sessions h.subscriptions = subst (λ (w : World). AllMayStand w.sessions w.subscriptions) (sym c.self.view_is) c.requires.sound in (
      c.self.invariant.0,
      c.self.invariant.1,
      empty_current c.clear_cache.new.self.cache (rows_of h.ready) c.push.new.self h.subscriptions c.clear_cache.ensures,
      c.self.invariant.3,
      subst (λ (zs : List Session). AreMarked zs h.subscriptions h.caches.marks) (sym c.in_ok-push.ensures.ok)
          (marked_opened h.caches.marks h.sessions c.into_inner.result h.subscriptions (have_sessions h.sessions h.subscriptions may) c.self.invariant.4),
    )
