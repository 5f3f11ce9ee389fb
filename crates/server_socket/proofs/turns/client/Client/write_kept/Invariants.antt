use Rattle.std.proofs.Common.{length, drop, ◌-◌, ◌≡◌}
use Rattle.server_socket.specs.turns.Turns.{Writes}
use Rattle.server_socket.proofs.turns.client.Client.write_kept.Given as goal

-- a front of what was kept is written, and no write has failed
abbrev pub invariant-loop-self : goal.invariant-loop-self
invariant-loop-self g l = record {
  conn : l.self-inside.conn ≡ l.fn.self.conn;
  writes : Writes (g.S.NonBlockingSink.contents l.fn.writer) (g.S.NonBlockingSink.contents l.writer) l.fn.self.kept (drop l.self-inside.written l.self-inside.bytes.items);
  failed : g.S.NonBlockingSink.failed l.writer ≡ g.S.NonBlockingSink.failed l.fn.writer;
}

abbrev pub decreases-loop-self : goal.decreases-loop-self
decreases-loop-self g l = length l.self-inside.bytes.items - l.self-inside.written
