-- so many were dropped, and nothing else has changed
use Rattle.std.proofs.Common.{◌≡◌, ◌+◌, length}
use Rattle.server_connections.specs.Work.{first_fresh}
use Rattle.server_connections.proofs.connections.Connections.first_fresh.Given as goal

abbrev pub invariant-loop : goal.invariant-loop
invariant-loop l = record {
  rest : l.self ≡ record l.initial.self { fresh = l.self.fresh };
  first : first_fresh l.self.slab l.self.fresh.items ≡ first_fresh l.initial.self.slab l.initial.self.fresh.items;
  left : l.counter + length l.self.fresh.items ≡ length l.initial.self.fresh.items;
}
