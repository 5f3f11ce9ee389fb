-- How connections end, and how a worker does.
use Rattle.std.specs.Prelude.{◌≡◌, ◌<◌, ℕ, Bool, true, Option, None, Some}
use Rattle.slab.specs.Slab.{Slab}
use Rattle.server_socket.specs.declared.connection.Connection.{Connection}
use Rattle.server_connections.specs.Work.{IsAllWritten}
use Rattle.server_loop.specs.declared.ending.Ended.{Ended}
use Rattle.server_loop.specs.declared.ending.Ended.TheVariants.{Nobody, Later, Closed}
use Rattle.server_loop.specs.declared.ending.WrittenOut.{WrittenOut}
use Rattle.server_loop.specs.declared.ending.WrittenOut.TheVariants.{All, Late}

-- the worker has it no more, or it lingers
abbrev pub is_let_go : Option Connection → Bool
is_let_go None = true
is_let_go (Some it) = it.lingers

-- A connection that the worker has is let go or lingers, or is put among those whose turn could not be ended.
abbrev pub IsEnded : ℕ → Option Connection → Ended → Option Connection → Type 0
IsEnded key None ended after = ended ≡ Nobody
IsEnded key (Some it) Nobody after = ⊥
IsEnded key (Some it) (Later stalled) after = stalled.key ≡ key
IsEnded key (Some it) Closed after = is_let_go after ≡ true

-- nothing is still to be written to any client, or that has taken more than two seconds
abbrev pub IsWrittenOut : WrittenOut → Slab Connection → Type 0
IsWrittenOut All connections = IsAllWritten connections
IsWrittenOut (Late taken) connections = 2000 < taken
