-- What is due to a connection, and when (docs/ARCHITECTURE.md, "The server").
use Rattle.std.specs.Option.{unwrap_or}
use Rattle.std.specs.Prelude.{◌-◌, ◌||◌, ◌&&◌, ℕ, Bool, true, false, not, Option, Some, None, max, min, nat_eq, nat_lt}
use Rattle.server_socket.specs.pacing.Awaited as awaited
use Rattle.server_state.specs.declared.mail.pending.Pending.{Pending}
use Rattle.server_socket.specs.declared.pacing.due.Due.{Due}

-- nothing waits for it
abbrev pub nothing : Due
nothing = record { awaited = record { count = 0; bytes = 0 }; ahead = None; drain = false }

-- more is pending for it
abbrev pub more_pending : Due → Pending → Due
more_pending d p = record d { awaited = awaited.more d.awaited p.entered p.bytes; drain = d.drain || p.drain }

abbrev pub ahead_of : Option ℕ → ℕ → Option ℕ
ahead_of None rest = None
ahead_of (Some ahead) rest = Some (min ahead rest)

abbrev pub bytes_of : Bool → ℕ → ℕ
bytes_of true bytes = 0
bytes_of false bytes = bytes

-- a Take has left so many, and no more than these come before what waits behind
abbrev pub left_by_take : Due → ℕ → Due
left_by_take d rest = record { awaited = record { count = rest; bytes = bytes_of (nat_eq rest 0) d.awaited.bytes }; ahead = ahead_of d.ahead rest; drain = d.drain }

-- mail about it may be lost: something may wait
abbrev pub mail_lost : Due → Due
mail_lost d = record d { awaited = record { count = max d.awaited.count 1; bytes = d.awaited.bytes } }

abbrev pub ahead_after : Option ℕ → ℕ → Option ℕ
ahead_after None most = None
ahead_after (Some ahead) most = Some (ahead - most)

-- a Take has asked for so many
abbrev pub taken : Due → ℕ → Due
taken d most = record { awaited = awaited.fewer d.awaited most; ahead = ahead_after d.ahead most; drain = false }

-- so many wait, and come before what waits behind them
abbrev pub barred : Due → ℕ → Due
barred d count = record { awaited = record { count = max d.awaited.count count; bytes = d.awaited.bytes }; ahead = Some count; drain = d.drain }

-- what waited behind is told
abbrev pub passed : Due → Due
passed d = record d { ahead = None }

-- deliveries wait, or may wait before answers, or it is to be drained whatever waits; but nothing is due to a client that
-- isn't connected
abbrev pub is_due : Due → Bool → Bool
is_due d connected = ((nat_lt 0 d.awaited.count || d.drain) || nat_lt 0 (unwrap_or d.ahead 0)) && connected

abbrev pub take_if : Bool → Due → ℕ
take_if true d = 16
take_if false d = awaited.next_take d.awaited

-- few where nothing is known of their size
abbrev pub next_take : Due → ℕ
next_take d = take_if (nat_eq d.awaited.count 0 && not d.drain) d

-- all deliveries that come before what waits behind them are taken
abbrev pub is_nothing : Option ℕ → Bool
is_nothing None = false
is_nothing (Some ahead) = nat_eq ahead 0

-- fewer deliveries wait than are many
abbrev pub may_wait : Due → ℕ → Bool
may_wait d many = nat_lt d.awaited.count many
