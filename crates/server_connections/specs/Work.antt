-- Which connections have work, and which kind.
use Rattle.std.specs.Option.{unwrap_or}
use Rattle.std.specs.Prelude.{◌≡◌, ◌≢◌, ◌<◌, ◌&&◌, ◌||◌, ⊤, ℕ, List, [], length, find, Bool, true, false, not, Option, None, Some, is_some, min, nat_eq}
use Rattle.slab.specs.Slab.{Slab, get}
use Rattle.server_socket.specs.Connections.{is_stuck, may_read}
use Rattle.server_socket.specs.Queues.{IsPut}
use Rattle.server_socket.specs.Fresh.{is_fresh}
use Rattle.server_socket.specs.declared.connection.Connection.{Connection}
use Rattle.server_socket.specs.declared.connection.Queued.{Queued}
use Rattle.server_socket.specs.pacing.Due.{barred, may_wait}
use Rattle.server_connections.specs.declared.connections.Connections.{Connections}
use Rattle.server_connections.specs.declared.fresh.Fresh.{Fresh}
use Rattle.server_connections.specs.declared.giving.GivesWay.{GivesWay}
use Rattle.server_connections.specs.declared.giving.GivesWay.TheVariants as gives
use Rattle.server_connections.specs.declared.lingering.Lingering.{Lingering}
use Rattle.server_connections.specs.declared.turns.Reads.{Reads}
use Rattle.server_connections.specs.declared.turns.Reads.TheVariants as reads

-- ---- queues

-- how a connection is marked as being in a queue, or not
abbrev pub mark_ready : Bool → Queued → Queued
mark_ready is_in q = record q { ready = is_in }

abbrev pub mark_cut : Bool → Queued → Queued
mark_cut is_in q = record q { cut = is_in }

abbrev pub mark_flush : Bool → Queued → Queued
mark_flush is_in q = record q { flush = is_in }

abbrev pub mark_pressing : Bool → Queued → Queued
mark_pressing is_in q = record q { pressing = is_in }

abbrev pub marked : (Queued → Queued) → Connection → Connection
marked mark it = record it { queued = mark it.queued }

-- A connection, if the worker has it, is put behind the others of a queue and marked as being in it, unless it was. Without
-- memory neither changes.
abbrev pub IsQueued : (Queued → Bool) → (Bool → Queued → Queued) → ℕ → Option Connection → List ℕ → Option Connection → List ℕ → Type 0
IsQueued is_in mark key None queue it' queue' = (it' ≡ None) × (queue' ≡ queue)
IsQueued is_in mark key (Some it) queue it' queue' = (now : Bool) × IsPut key (is_in it.queued) queue now queue' × (it' ≡ Some (marked (mark now) it))

-- the same of those to be written to
abbrev pub IsFlushed : ℕ → Option Connection → List ℕ → List ℕ → Type 0
IsFlushed key it queue queue' =
    (it' : Option Connection) × IsQueued (λ q. q.flush) mark_flush key it queue it' queue'

-- the same, or nothing
abbrev pub IsQueuedIf : Bool → (Queued → Bool) → (Bool → Queued → Queued) → ℕ → Option Connection → List ℕ → Option Connection → List ℕ → Type 0
IsQueuedIf false is_in mark key it queue it' queue' = (it' ≡ it) × (queue' ≡ queue)
IsQueuedIf true is_in mark key it queue it' queue' = IsQueued is_in mark key it queue it' queue'

-- the worker has it, and it may be read
abbrev pub is_readable : Option Connection → Bool
is_readable None = false
is_readable (Some it) = may_read it

-- the worker has it, and its socket may have more to read
abbrev pub has_input : Option Connection → Bool
has_input None = false
has_input (Some it) = it.readable

-- the same once the system has told whether it has
abbrev pub hears_input : Bool → Option Connection → Bool
hears_input told None = false
hears_input told (Some it) = it.readable || told

-- the worker has it, and so much waits for it that it is written to soon
abbrev pub is_pressing : ℕ → Option Connection → Bool
is_pressing many None = false
is_pressing many (Some it) = not (may_wait it.due many)

-- the worker has it, and it lingers
abbrev pub lingers_of : Option Connection → Bool
lingers_of None = false
lingers_of (Some it) = it.lingers

-- Nothing is still to be written to its client, if the worker has it: nothing is kept, and it isn't among those to be written to.
abbrev pub IsWrittenTo : Option Connection → Type 0
IsWrittenTo None = ⊤
IsWrittenTo (Some it) = (it.client.kept ≢ [] → ⊥) × (it.queued.flush ≡ false)

-- the same of all of a worker's connections
abbrev pub IsAllWritten : Slab Connection → Type 0
IsAllWritten slab = (key : ℕ) → key < slab.capacity → IsWrittenTo (get slab key)

-- the worker has it, and its frames wait for a receiver
abbrev pub waits : Option Connection → Bool
waits None = false
waits (Some it) = is_some it.held_until

-- the worker has it, and it is stuck at a moment
abbrev pub is_stuck_of : ℕ → Option Connection → Bool
is_stuck_of now None = false
is_stuck_of now (Some it) = is_stuck now it

-- none of a worker's connections is stuck at a moment
abbrev pub IsNoneStuck : ℕ → Slab Connection → Type 0
IsNoneStuck now slab = (key : ℕ) → key < slab.capacity → is_stuck_of now (get slab key) ≡ false

-- ---- rounds and turns

-- work was looked for long enough, or is tried again after a sleep; and no connection has something to be read, to go on with,
-- or to be written
abbrev pub are_idle : Connections → Bool
are_idle c = (((nat_eq c.looks 0 || not (nat_eq (length c.stalled) 0)) && nat_eq (length c.ready) 0) && nat_eq (length c.cut) 0) && nat_eq (length c.flush) 0

-- what is done with what a client sends: it is served where it may be read, or dropped where it lingers
abbrev pub reads_by : Bool → Bool → Reads
reads_by false lingers = reads.Nothing
reads_by true true = reads.Drop
reads_by true false = reads.Serve

abbrev pub reads_of : Option Connection → Reads
reads_of None = reads.Nothing
reads_of (Some it) = reads_by (may_read it) it.lingers

-- it was cut short, and isn't over
abbrev pub goes_on : Option Connection → Bool
goes_on None = false
goes_on (Some it) = it.queued.cut && not it.is_over

-- its session is still to be closed
abbrev pub is_to_end : Option Connection → Bool
is_to_end None = false
is_to_end (Some it) = it.is_over && not it.lingers

-- so many deliveries come before what it is told next
abbrev pub barred_by : ℕ → Connection → Connection
barred_by count it = record it { due = barred it.due count }

-- the moment at which those that are held are looked after, where one waits until then
abbrev pub sooner : Option ℕ → ℕ → ℕ
sooner at until = min (unwrap_or at until) until

-- ---- who gives way

-- an entry is that of a connection that still lingers
abbrev pub is_lingering : Lingering → Option Connection → Bool
is_lingering entry None = false
is_lingering entry (Some it) = it.lingers && nat_eq it.client.conn.conn entry.conn

-- an entry is that of a connection that is still fresh
abbrev pub is_still_fresh : Fresh → Option Connection → Bool
is_still_fresh entry None = false
is_still_fresh entry (Some it) = nat_eq it.client.conn.conn entry.conn && is_fresh it.client.conn.stage

-- the first of these entries whose connection still lingers, or is still fresh
abbrev pub first_lingering : Slab Connection → List Lingering → Option Lingering
first_lingering slab entries = find (λ entry. is_lingering entry (get slab entry.key)) entries

abbrev pub first_fresh : Slab Connection → List Fresh → Option Fresh
first_fresh slab entries = find (λ entry. is_still_fresh entry (get slab entry.key)) entries

-- which connection gives way, by the first that lingers and the first that is fresh
abbrev pub first_to_go : Option Lingering → Option Fresh → Option GivesWay
first_to_go (Some it) fresh = Some (gives.Lingering it.key)
first_to_go None (Some it) = Some (gives.Fresh it.key)
first_to_go None None = None
