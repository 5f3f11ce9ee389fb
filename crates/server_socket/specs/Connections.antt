-- A worker's connection: what it may do.
use Rattle.std.specs.Prelude.{ℕ, ◌&&◌, ◌||◌, Bool, true, false, not, Option, None, Some, is_some}
use Rattle.server_socket.specs.declared.turns.turn.Turn.TheVariants.{Done, Failed}
use Rattle.server_socket.specs.pacing.Due as due
use Rattle.server_socket.specs.pacing.Due.{is_nothing, passed}
use Rattle.session_plan.specs.Replies.{is_closed, is_connected}
use Rattle.server_socket.specs.Blocked.{end_of, is_past}
use Rattle.server_socket.specs.declared.connection.Connection.{Connection}
use Rattle.server_socket.specs.declared.connection.Queued.{Queued}
use Rattle.server_socket.specs.declared.writing.Written.{Written}
use Rattle.server_socket.specs.declared.writing.Written.TheVariants.{Ends, Later, Passed, Stops, Take}

-- it is in no queue
abbrev pub not_queued : Queued
not_queued = record { ready = false; cut = false; flush = false; pressing = false; held = false }

-- it isn't read meanwhile: its frames wait for a receiver, were cut short, or come behind deliveries
abbrev pub is_set_aside : Connection → Bool
is_set_aside c = (is_some c.held_until || c.queued.cut) || is_some c.due.ahead

-- it may be read, or its frames go on; or what its client sends is dropped
abbrev pub may_read : Connection → Bool
may_read c = c.readable && (c.lingers || not (is_set_aside c) && not c.is_over)

-- it is ended where its socket takes nothing
abbrev pub may_not_last : Connection → Bool
may_not_last c = (c.due.drain || c.is_let_on) || is_closed c.client.conn.stage

-- what its client sends waits, and its socket hasn't taken for ten seconds what comes before
abbrev pub is_stuck : ℕ → Connection → Bool
is_stuck now c = (c.readable && not c.is_over) && is_past c.blocked.since now

-- a Take is due to it
abbrev pub is_due : Connection → Bool
is_due c = due.is_due c.due (is_connected c.client.conn.stage)

-- its frames may go on that waited for a receiver, if they did
abbrev pub let_on_by : Option ℕ → Connection → Connection
let_on_by None c = c
let_on_by (Some until) c = record c { held_until = None; is_let_on = true }

abbrev pub let_on : Connection → Connection
let_on c = let_on_by c.held_until c

-- ---- what comes next of a connection that is written to

-- Its socket takes nothing now. If it is to be closed it is looked after, and ends after two seconds.
abbrev pub next_of_blocked : Bool → Bool → Written
next_of_blocked false is_out = Stops
next_of_blocked true true = Ends Failed
next_of_blocked true false = Later

abbrev pub counted_down : Bool → ℕ → Connection → Connection
counted_down false now c = c
counted_down true now c = record c { blocked = record c.blocked { end_at = Some (end_of c.blocked.end_at now) } }

-- All is written. What its client is told next comes before what has come meanwhile, and that before the next Take.
abbrev pub next_by : Bool → Bool → Bool → Written
next_by true reads takes = Passed
next_by false true takes = Ends Done
next_by false false true = Take
next_by false false false = Ends Done

abbrev pub next_of : Connection → Written
next_of c = next_by (is_nothing c.due.ahead) (c.has_passed && may_read c) (is_due c)

abbrev pub passed_by : Bool → Connection → Connection
passed_by true c = record c { due = passed c.due; has_passed = true }
passed_by false c = c

abbrev pub all_written : Connection → Connection
all_written c = passed_by (is_nothing c.due.ahead) (record c { blocked = record c.blocked { end_at = None } })
