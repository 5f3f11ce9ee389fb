-- the connections so far are noted, and there is room for the others
use Rattle.std.proofs.Common.{◌≡◌, ◌≤◌, ◌+◌, length, map, take}
use Rattle.indexmap.specs.IndexSet.{spare}
use Rattle.stores.proofs.connections.connected.note_conns.Given as goal

abbrev pub invariant-loop-one : goal.invariant-loop-one
invariant-loop-one g l = record {
  keys : l.conns.keys ≡ map g.T.Connected.connection (take l.one-index l.list);
  room : length l.list ≤ spare l.conns + l.one-index;
}
