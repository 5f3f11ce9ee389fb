-- How much may wait for a connection (docs/GUARANTEE.md, "A message that is held back").
use Rattle.std.specs.Prelude.{◌≡◌, ◌≤◌, ◌<◌, ◌-◌, ◌*◌, ◌++◌, ◌∷◌, ℕ, List, [], Bool, false, Option, Some, None, if◌then◌else◌, nat_lt, length, drop}
use Rattle.std.specs.List.{sum_by}
use Rattle.events.specs.declared.event.Event.{Event}
use Rattle.events.specs.declared.event.Command.{Command}
use Rattle.events.specs.declared.event.Command.TheVariants.{Connect, Sub, Unsub, Pub, Take, Close, Reload}
use Rattle.events.specs.declared.answer.Delivery.{Delivery}
use Rattle.world_sessions.specs.declared.deliveries.session.Session.{Session}
use Rattle.world_sessions.specs.leniency.Held.{Terms, bytes_of, weight_of, is_over}
use Rattle.hub.specs.History.{State}
use Rattle.shared_waits.specs.Waiting.{Waiting, is_out_with}

-- how many bytes a message has, if there is one
abbrev pub size_of : Command → ℕ
size_of (Connect conn user password echo) = 0
size_of (Sub conn p queue sid) = 0
size_of (Unsub conn sid most) = 0
size_of (Pub conn m word) = bytes_of m
size_of (Take conn most) = 0
size_of (Close conn) = 0
size_of (Reload doc) = 0

-- a message is large if as many of its size as an outbox holds have more than 64 MiB
abbrev pub is_large : ℕ → ℕ → Bool
is_large capacity size = nat_lt 67108864 (size * capacity)

-- how many bytes may wait where a message of this size enters: with it no more than 64 MiB, if it is large
abbrev pub room_beside : ℕ → ℕ → Option ℕ
room_beside capacity size = if is_large capacity size then Some (67108864 - size) else None

-- the terms on which a server has a message enter: it is lenient to whom the patience is used up with, and a large message
-- waits for room
abbrev pub terms_at : Waiting → State → Event → Terms
terms_at w s e = record { lets = is_out_with w e.now; room = room_beside s.world.capacity (size_of e.what) }

-- ---- what waits then

-- what a delivery adds to what large messages weigh
abbrev pub large_weight : ℕ → Delivery → ℕ
large_weight capacity d = if is_large capacity (weight_of d) then weight_of d else 0

-- no more deliveries wait than an outbox holds, and of large messages no more than 64 MiB
pub record IsBounded (capacity : ℕ) (ds : List Delivery) : Type 0 where
  pub count : length ds ≤ capacity
  pub large : sum_by (large_weight capacity) ds ≤ 67108864

-- So no more than 128 MiB wait.
abbrev pub HasNoMore : Type 0
HasNoMore = (capacity : ℕ) (ds : List Delivery) → 0 < capacity → IsBounded capacity ds → sum_by weight_of ds ≤ 134217728

-- It stays so where a delivery of a message enters that has no more than 64 MiB and isn't held back by what waits,
abbrev pub StaysEntering : Type 0
StaysEntering = (capacity : ℕ) (z : Session) (d : Delivery) → IsBounded capacity z.outbox.waiting → length z.outbox.waiting < capacity → weight_of d ≤ 67108864
    → is_over (room_beside capacity (weight_of d)) (Some z) ≡ false → IsBounded capacity (z.outbox.waiting ++ d ∷ [])

-- and where the oldest leave.
abbrev pub StaysLeaving : Type 0
StaysLeaving = (capacity : ℕ) (ds : List Delivery) (most : ℕ) → IsBounded capacity ds → IsBounded capacity (drop most ds)
