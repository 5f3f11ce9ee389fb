-- who has ended, and who is to
use Rattle.std.proofs.Common.{◌≡◌, ◌≤◌, ◌+◌, ◌++◌, ℕ, length, drop, vec_len, vec_capacity}
use Rattle.shared_waits.specs.Waiting.{patience_with, after_gone, freed_by, after_ends}
use Rattle.shared_waits.proofs.waits.Waits.remove.Given as goal

abbrev pub invariant-loop-conn : goal.invariant-loop-conn
invariant-loop-conn l = record {
  receivers : (conn : ℕ) → after_gone (drop l.conn-index l.conns) conn (patience_with l.self conn) ≡ after_gone l.conns conn (patience_with l.initial.self conn);
  freed : l.freed.items ++ freed_by (drop l.conn-index l.conns) l.self.publishers ≡ l.initial.freed.items ++ freed_by l.conns l.initial.self.publishers;
  publishers : after_ends (drop l.conn-index l.conns) l.self.publishers ≡ after_ends l.conns l.initial.self.publishers;
  room : vec_len l.freed + length l.self.publishers ≤ vec_capacity l.freed;
}
