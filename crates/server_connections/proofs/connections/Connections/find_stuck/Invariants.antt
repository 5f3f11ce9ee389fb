-- none so far is stuck
use Rattle.std.proofs.Common.{◌≡◌, ◌<◌, ℕ, false}
use Rattle.slab.specs.Slab.{get}
use Rattle.server_connections.specs.Work.{is_stuck_of}
use Rattle.server_connections.proofs.connections.Connections.find_stuck.Given as goal

abbrev pub invariant-loop-key : goal.invariant-loop-key
invariant-loop-key l = (other : ℕ) → other < l.key → is_stuck_of l.now (get l.self.slab other) ≡ false
