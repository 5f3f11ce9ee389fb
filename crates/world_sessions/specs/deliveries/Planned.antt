-- What deliveries will meet, told before any is handed over: each counts against the room of its connection.
use Rattle.std.specs.Prelude.{◌≡◌, ◌==◌, ◌-◌, ◌<◌, ◌∷◌, ℕ, List, [], None, if◌then◌else◌, nat_lt, length, slice_index_or}
use Rattle.events.specs.declared.answer.Item.{Item}
use Rattle.events.specs.declared.answer.Item.TheVariants.{Entered, Full}
use Rattle.world_sessions.specs.deliveries.Sessions.{session_of}
use Rattle.world_sessions.specs.deliveries.Delivered.{room_in}
use Rattle.world_sessions.specs.declared.deliveries.session.Session.{Session}
use Rattle.events.specs.declared.answer.Addressed.{Addressed}

-- the room that is noted beside the session of a connection
abbrev pub room_at : List Session → List ℕ → ℕ → ℕ
room_at [] rooms conn = 0
room_at (z ∷ zs) [] conn = 0
room_at (z ∷ zs) (r ∷ rooms) conn = if z.conn == conn then r else room_at zs rooms conn

-- the room of each connection
abbrev pub rooms_of : List Session → ℕ → ℕ
rooms_of zs = λ conn. room_in (session_of zs conn)

-- rooms by connection, with one given to a connection
abbrev pub with_room : ℕ → ℕ → (ℕ → ℕ) → ℕ → ℕ
with_room conn n rooms = λ other. if other == conn then n else rooms other

-- what each delivery meets, where one that enters takes a place of its connection's room
abbrev pub planned : List Addressed → (ℕ → ℕ) → List Item
planned [] rooms = []
planned (a ∷ rest) rooms =
    (if nat_lt 0 (rooms a.conn) then Entered a.conn a.delivery.sid else Full a.conn a.delivery.sid) ∷ planned rest (with_room a.conn (rooms a.conn - 1) rooms)

-- what a delivery that enters meets
abbrev pub entered : Addressed → Item
entered a = Entered a.conn a.delivery.sid

-- nothing is put down beside a delivery, and there is room for it after so many others of its connection
abbrev pub IsRoomy : ℕ → Addressed → (ℕ → ℕ) → Type 0
IsRoomy before a rooms = (a.noted ≡ None) × (before < rooms a.conn)

-- so it is with each, even where all those before it are of its connection
abbrev pub AreRoomy : List Addressed → (ℕ → ℕ) → Type 0
AreRoomy all rooms = (k : ℕ) (d : Addressed) → k < length all → IsRoomy k (slice_index_or all k d) rooms
