-- The world: all that the tables hold (docs/GUARANTEE.md, "The world").
use Rattle.std.specs.Prelude.{ℕ, List, [], max}
use Rattle.policy_doc.specs.declared.document.PolicyDoc.{PolicyDoc}
use Rattle.service_exporter.specs.Routes.{Exporter}
use Rattle.service_routes.specs.Routes.{Name, pruned}
use Rattle.world_sessions.specs.declared.deliveries.session.Session.{Session}
use Rattle.world_rows.specs.declared.subscription.Subscription.{Subscription}

pub record World : Type 0 where
  -- how many deliveries may wait for a session
  pub capacity : ℕ
  pub policy : PolicyDoc
  pub epoch : ℕ
  -- the latest moment that an event had
  pub moment : ℕ
  pub sessions : List Session
  -- all standing subscriptions, oldest first
  pub subscriptions : List Subscription
  -- the response routes that live at that moment, exporter by exporter
  pub routes : List (Name × Exporter)
  -- the number of the last entry
  pub number : ℕ

-- nobody is connected, and nothing has happened
abbrev pub opening_world : PolicyDoc → ℕ → World
opening_world policy capacity =
    record { capacity = capacity; policy = policy; epoch = 1; moment = 0; sessions = []; subscriptions = []; routes = []; number = 0 }

-- the clock never goes back: an event's moment is the later of its own and the kept one. Routes that don't live at it are gone
abbrev pub advanced : World → ℕ → World
advanced w now = record w { moment = max w.moment now; routes = pruned (max w.moment now) w.routes }
