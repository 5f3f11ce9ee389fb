-- who is found behind, and who is to be
use Rattle.std.proofs.Common.{◌≡◌, ◌≤◌, ◌+◌, ℕ, length, drop, nat_eq}
use Rattle.indexmap.specs.IndexMap.{get, spare}
use Rattle.shared_waits.specs.Waiting.{after_found}
use Rattle.shared_waits.proofs.waits.find_all.Given as goal

abbrev pub invariant-loop-conn : goal.invariant-loop-conn
invariant-loop-conn g l = record {
  found : (conn : ℕ) → after_found (g.O.Outboxes.waiting l.outboxes) l.now (drop l.conn-index l.held) conn (get nat_eq l.receivers conn) ≡ after_found (g.O.Outboxes.waiting l.outboxes) l.now l.held conn (get nat_eq l.initial.receivers conn);
  room : length l.held ≤ spare l.receivers + l.conn-index;
}
