-- What follows from a connection's turn.
use Rattle.std.specs.Io.Iter.{u64_saturate}
use Rattle.std.specs.Prelude.{◌≡◌, ◌+◌, ◌&&◌, ◌||◌, ℕ, Bool, true, false, Option, None, Some, nat_lt}
use Rattle.server_socket.specs.declared.reading.ConnectionTurn.{ConnectionTurn}
use Rattle.worker_port.specs.declared.course.Why.{Why}
use Rattle.worker_port.specs.declared.course.Why.TheVariants.{Receiver, Slow, Share}
use Rattle.server_loop.specs.declared.mail.LeftSlow.{LeftSlow}
use Rattle.server_loop.specs.declared.turns.Aside.{Aside}
use Rattle.server_loop.specs.declared.turns.Aside.TheVariants as aside

-- something was read, and frames of it were entered or will be
abbrev pub is_kept : ConnectionTurn → Bool → Bool
is_kept served has_entered = nat_lt 0 served.read && (served.frames_wait || has_entered)

-- what was buffered and what was read, if they are kept
abbrev pub kept_by : Bool → ℕ → ℕ → ℕ
kept_by true buffered read = u64_saturate (buffered + read)
kept_by false buffered read = 0

-- Where a connection stays, by why its frame is held back: a slow receiver's number is left with its worker.
abbrev pub IsAside : Option Why → Aside → Type 0
IsAside (Some (Receiver until)) where_it_is = where_it_is ≡ aside.Held
IsAside (Some (Slow conn)) where_it_is = (left : LeftSlow) × (left.conn ≡ conn) × (where_it_is ≡ aside.Slow left)
IsAside (Some Share) where_it_is = where_it_is ≡ aside.Cut
IsAside None where_it_is = where_it_is ≡ aside.Barred
