-- the connections so far of the sessions that go
use Rattle.std.proofs.Common.{◌≡◌, take, map, filter}
use Rattle.world_sessions.specs.Renewal.{connection_of, goes}
use Rattle.world_sessions.proofs.renewal.closed_in_turn.Given as goal

abbrev pub invariant-loop-session : goal.invariant-loop-session
invariant-loop-session l = l.gone.items ≡ map connection_of (filter (goes l.ready) (take l.session-index l.list))
