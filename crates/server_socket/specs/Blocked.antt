-- For how long a connection's socket takes nothing.
use Rattle.std.specs.Option.{unwrap_or}
use Rattle.std.specs.Prelude.{ℕ, ◌+◌, ◌-◌, Bool, true, false, Option, None, Some, nat_le}
use Rattle.std.specs.Io.Iter.{u64_saturate}
use Rattle.server_socket.specs.declared.blocked.Blocked.{Blocked}

-- its socket takes what it is given
abbrev pub not_blocked : Blocked
not_blocked = record { millis = 0; since = None; end_at = None }

-- the socket has taken all: the time since it refused something is counted
abbrev pub took_all : Option ℕ → ℕ → Blocked → Blocked
took_all None now b = b
took_all (Some at) now b = record b { millis = u64_saturate (b.millis + (now - at)); since = None }

-- a write: from one of which something waits to the one that takes the rest the socket takes nothing
abbrev pub written : Bool → ℕ → Blocked → Blocked
written true now b = record b { since = Some (unwrap_or b.since now) }
written false now b = took_all b.since now b

-- when a connection ends that has two seconds left, unless that is settled
abbrev pub end_of : Option ℕ → ℕ → ℕ
end_of None now = u64_saturate (now + 2000)
end_of (Some at) now = at

-- whether the two seconds have passed
abbrev pub is_out : Option ℕ → ℕ → Bool
is_out None now = false
is_out (Some at) now = nat_le at now

-- whether a socket that takes less than it is given since some moment has done so for ten seconds
abbrev pub is_past : Option ℕ → ℕ → Bool
is_past None now = false
is_past (Some at) now = nat_le (u64_saturate (at + 10000)) now
