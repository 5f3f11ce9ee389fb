-- so many were dropped, and nothing else has changed
use Rattle.std.proofs.Common.{◌≡◌, ◌+◌, length}
use Rattle.server_connections.specs.Work.{first_lingering}
use Rattle.server_connections.proofs.connections.Connections.first_lingering.Given as goal

abbrev pub invariant-loop : goal.invariant-loop
invariant-loop l = record {
  rest : l.self ≡ record l.initial.self { lingering = l.self.lingering };
  first : first_lingering l.self.slab l.self.lingering.items ≡ first_lingering l.initial.self.slab l.initial.self.lingering.items;
  left : l.counter + length l.self.lingering.items ≡ length l.initial.self.lingering.items;
}
