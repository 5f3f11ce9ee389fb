-- The sessions as a list, in order of connecting (docs/GUARANTEE.md, "The world").
use Rattle.std.specs.Prelude.{◌≡◌, ◌≢◌, ◌==◌, ◌<◌, ◌∷◌, ℕ, List, [], Bool, false, Option, Some, None, length, slice_index_or, slice_set, if◌then◌else◌, find, drop, take}
use Rattle.events.specs.declared.answer.Delivery.{Delivery}
use Rattle.policy_ready.specs.declared.ready.User.{User}
use Rattle.world_sessions.specs.declared.deliveries.session.Session.{Session}

-- the session of a connection
abbrev pub session_of : List Session → ℕ → Option Session
session_of zs conn = find (λ z. z.conn == conn) zs

-- the sessions, with that of the connection changed
abbrev pub with_session : (Session → Session) → ℕ → List Session → List Session
with_session f conn [] = []
with_session f conn (z ∷ zs) = if z.conn == conn then f z ∷ zs else z ∷ with_session f conn zs

-- a session with nothing in its outbox
abbrev pub new_session : ℕ → User → Bool → ℕ → Session
new_session conn u echo capacity = record { conn = conn; user = u; echo = echo; missed = false; outbox = record { capacity = capacity; waiting = [] }; replies = None }

-- the oldest deliveries of a session, so many at most
abbrev pub front_of : ℕ → Option Session → List Delivery
front_of most None = []
front_of most (Some z) = take most z.outbox.waiting

-- a session after a Take: its oldest deliveries have left, and what was missed has been told
abbrev pub drained : ℕ → Session → Session
drained most z = record z { missed = false; outbox = record z.outbox { waiting = drop most z.outbox.waiting } }

abbrev pub connection_of : Session → ℕ
connection_of z = z.conn

-- two sessions of different connections
abbrev pub IsApart : Session → Session → Type 0
IsApart y z = y.conn ≢ z.conn

-- no session is the connection's, so there is nothing to change
pub record IsNowhere (conn : ℕ) (zs : List Session) : Type 0 where
  pub none : session_of zs conn ≡ None
  pub same : (f : Session → Session) → with_session f conn zs ≡ zs

-- the connection's session stands at a place, and a change of it is a write there
pub record IsPlace (conn : ℕ) (zs : List Session) (i : ℕ) : Type 0 where
  pub within : i < length zs
  pub here : (d : Session) → session_of zs conn ≡ Some (slice_index_or zs i d)
  pub write : (f : Session → Session) (d : Session) → with_session f conn zs ≡ slice_set zs i (f (slice_index_or zs i d))
