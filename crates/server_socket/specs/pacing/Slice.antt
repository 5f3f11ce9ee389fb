-- How much is drained before sockets are looked at again.
use Rattle.std.specs.Prelude.{ℕ, ◌-◌, ◌||◌, Bool, nat_eq}
use Rattle.server_socket.specs.declared.pacing.slice.Slice.{Slice}

-- 256 connections, 4,096 deliveries, a MiB
abbrev pub whole : Slice
whole = record { connections = 256; deliveries = 4096; bytes = 1048576 }

-- one connection has had so much
abbrev pub less : Slice → ℕ → ℕ → Slice
less s deliveries bytes = record { connections = s.connections - 1; deliveries = s.deliveries - deliveries; bytes = s.bytes - bytes }

-- one of them is used up
abbrev pub is_spent : Slice → Bool
is_spent s = (nat_eq s.connections 0 || nat_eq s.deliveries 0) || nat_eq s.bytes 0
