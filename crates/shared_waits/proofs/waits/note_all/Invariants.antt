-- what is noted, and who of those that are left is to be
use Rattle.std.proofs.Common.{◌≡◌, ◌≤◌, ◌+◌, ◌++◌, length, vec_len, vec_capacity}
use Rattle.shared_waits.specs.Waiting.{under}
use Rattle.shared_waits.proofs.waits.note_all.Given as goal

abbrev pub invariant-loop-publisher : goal.invariant-loop-publisher
invariant-loop-publisher l = record {
  next : (goal.iterator-loop-publisher).can_next l.publisher-iterator;
  ends : (goal.iterator-loop-publisher).is_finite l.publisher-iterator;
  noted : l.freed.items ++ under l.receiver l.publisher-iterator ≡ l.initial.freed.items ++ under l.receiver l.publishers.entries;
  room : vec_len l.freed + length l.publisher-iterator ≤ vec_capacity l.freed;
  same : vec_capacity l.freed ≡ vec_capacity l.initial.freed;
}
