-- what is left, once it has run, completes the run of all events
use Rattle.std.proofs.Common.{◌+◌, ◌≤◌, length, vec_len, vec_capacity}
use Rattle.std.specs.VecDeque.{deque_len}
use Rattle.hub.specs.History.{IsStep}
use Rattle.hub.specs.Guarantee.{KeepsGuarantee}
use Rattle.hub.proofs.Runs.{Completes}
use Rattle.hub.proofs.hub.Hub.run_each.Given as goal

abbrev pub invariant-loop-event : goal.invariant-loop-event
invariant-loop-event l = record {
  guarded : Completes KeepsGuarantee l.initial.self l.initial.events.items l.answers.items l.self l.events.items;
  done : Completes IsStep l.initial.self l.initial.events.items l.answers.items l.self l.events.items;
  room : vec_len l.answers + length l.events.items ≤ vec_capacity l.answers;
}

abbrev pub decreases-loop-event : goal.decreases-loop-event
decreases-loop-event l = deque_len l.events
