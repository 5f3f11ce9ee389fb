-- nothing is still to be written to those so far
use Rattle.std.proofs.Common.{◌<◌, ℕ}
use Rattle.slab.specs.Slab.{get}
use Rattle.server_connections.specs.Work.{IsWrittenTo}
use Rattle.server_connections.proofs.connections.Connections.has_unwritten.Given as goal

abbrev pub invariant-loop-key : goal.invariant-loop-key
invariant-loop-key l = (other : ℕ) → other < l.key → IsWrittenTo (get l.self.slab other)
