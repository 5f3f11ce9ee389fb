-- Who holds a message back (docs/GUARANTEE.md, "A message that is held back").
use Rattle.std.specs.Prelude.{◌||◌, ◌+◌, ◌==◌, ℕ, List, Bool, true, false, Option, Some, None, if◌then◌else◌, not, length, nat_lt}
use Rattle.std.specs.List.{filter_map, sum_by}
use Rattle.events.specs.Messages.{Message}
use Rattle.events.specs.declared.answer.Delivery.{Delivery}
use Rattle.events.specs.declared.answer.Item.{Item}
use Rattle.events.specs.declared.answer.Item.TheVariants.{Entered, Full, RouteFull, MapTooLong, Unmapped, MappedTooLong}
use Rattle.world_sessions.specs.deliveries.Sessions.{session_of}
use Rattle.world_sessions.specs.declared.deliveries.session.Session.{Session}

-- on what terms a step may be made
pub record Terms : Type 0 where
  -- of whom it may tell that they are full
  pub lets : ℕ → Bool
  -- how many bytes may wait for whom its message enters, where that counts
  pub room : Option ℕ

-- a caller that is lenient to all
abbrev pub to_all : Terms
to_all = record { lets = λ conn. true; room = None }

-- ---- by how much waits

-- how many bytes a message has, beside its subjects
abbrev pub bytes_of : Message → ℕ
bytes_of m = length m.head + length m.payload

abbrev pub weight_of : Delivery → ℕ
weight_of d = bytes_of d.message

-- how many bytes wait in an outbox
abbrev pub weight : Option Session → ℕ
weight None = 0
weight (Some z) = sum_by weight_of z.outbox.waiting

-- whether more wait than may
abbrev pub is_over : Option ℕ → Option Session → Bool
is_over None z = false
is_over (Some room) z = nat_lt room (weight z)

-- ---- by a full outbox

-- whether an item tells of one
abbrev pub is_full : Item → Bool
is_full (Entered conn sid) = false
is_full (Full conn sid) = true
is_full (RouteFull row) = false
is_full (MapTooLong row) = false
is_full Unmapped = false
is_full (MappedTooLong index) = false

-- whether nothing waits in an outbox: then no room comes by waiting
abbrev pub has_nothing : Option Session → Bool
has_nothing None = true
has_nothing (Some z) = length z.outbox.waiting == 0

-- whether a connection with a full outbox holds a message back: the caller isn't lenient to it, and something waits for it
abbrev pub holds_back : (ℕ → Bool) → List Session → ℕ → Bool
holds_back lets zs conn = not (lets conn || has_nothing (session_of zs conn))

-- ---- both

-- the connection that holds the message back at one subscription, if it does
abbrev pub held_conn : Terms → List Session → Item → Option ℕ
held_conn t zs (Entered conn sid) = if is_over t.room (session_of zs conn) then Some conn else None
held_conn t zs (Full conn sid) = if holds_back t.lets zs conn then Some conn else None
held_conn t zs (RouteFull row) = None
held_conn t zs (MapTooLong row) = None
held_conn t zs Unmapped = None
held_conn t zs (MappedTooLong index) = None

-- the connections that hold back a message that is to meet these items, once for each item
abbrev pub held_among : Terms → List Session → List Item → List ℕ
held_among t zs items = filter_map (held_conn t zs) items
