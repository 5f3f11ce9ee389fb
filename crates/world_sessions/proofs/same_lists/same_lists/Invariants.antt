-- an answer beside each session so far
use Rattle.std.proofs.Common.{◌≡◌, length}
use Rattle.world_sessions.specs.Renewal.{AreSameSoFar}
use Rattle.world_sessions.proofs.same_lists.same_lists.Given as goal

abbrev pub invariant-loop-session : goal.invariant-loop-session
invariant-loop-session l = record {
  all : length l.same.items ≡ l.session-index;
  same : AreSameSoFar l.ready l.list l.same.items;
}
