-- What a world remembers for the next publishes: it answers as the tables do, and the policy in force.
use Rattle.policy_ready.specs.imports.Views.{rows_of}
use Rattle.receivers.specs.cache.Cached.{IsCurrent}
use Rattle.receivers.specs.views.Marked.{AreMarked}
use Rattle.world_routing.specs.Remembered.{AreRemembered}
use Rattle.world_routing.specs.World.{World}
use Rattle.world_routing.specs.declared.caches.Caches.{Caches}

pub record IsTrue (w : World) (caches : Caches) : Type 0 where
  -- whom a message is known to be for is whom the tables have for it
  pub receivers : IsCurrent (rows_of w.policy) w.sessions w.subscriptions caches.receivers.cache
  -- a verdict that is remembered is that of the policy in force
  pub verdicts : AreRemembered w.policy caches.verdicts
  -- the deny marks of each standing subscription are those of its user's lists
  pub marks : AreMarked w.sessions w.subscriptions caches.marks
