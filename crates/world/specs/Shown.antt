-- What the world shows of its tables.
use Rattle.std.specs.Prelude.{ℕ, Bool, length, Option}
use Rattle.std.specs.Option.{option_map}
use Rattle.world_sessions.specs.deliveries.Sessions.{session_of}
use Rattle.world_sessions.specs.declared.deliveries.session.Session.{Session}
use Rattle.world_routing.specs.World.{World}
use Rattle.world_subscriptions.specs.Subscriptions.{of_connection}
pub use Rattle.world.specs.copies.Shown.{standing_of}

-- how much waits in a session's outbox, and whether a delivery was missed
abbrev pub waiting_in : Session → ℕ × Bool
waiting_in z = (length z.outbox.waiting, z.missed)

abbrev pub waiting_of : World → ℕ → Option (ℕ × Bool)
waiting_of w conn = option_map waiting_in (session_of w.sessions conn)

-- how many subscriptions a connection has
abbrev pub subscribed_of : World → ℕ → ℕ
subscribed_of w conn = length (of_connection conn w.subscriptions)
