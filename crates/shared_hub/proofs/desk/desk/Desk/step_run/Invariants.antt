-- what is left, once it is offered, completes the run, whose answers so far are kept
use Rattle.std.proofs.Common.{◌≡◌, ◌++◌, List}
use Rattle.std.specs.VecDeque.{deque_len}
use Rattle.events.specs.declared.answer.Entry.{Entry}
use Rattle.shared_waits.proofs.runs.Runs.{Continues}
use Rattle.shared_waits.specs.runs.Runs.{StaysBelow}
use Rattle.shared_hub.specs.desk.Publishing.{IsPublished, inside}
use Rattle.shared_hub.proofs.desk.desk.Desk.step_run.Given as goal

abbrev pub invariant-loop-message : goal.invariant-loop-message
invariant-loop-message g l = record {
  rotations : l.seat.rotations ≡ l.initial.seat.rotations;
  most : l.context.hold.most ≡ l.initial.context.hold.most;
  below : StaysBelow l.initial.context.hold.most l.initial.context.hold.answers.items l.context.hold.answers.items;
  freed : l.context.told.freed.items ≡ l.initial.context.told.freed.items;
  rest : l.context.told.rest ≡ l.initial.context.told.rest;
  run : (answers : List Entry) × (l.context.hold.answers.items ≡ l.initial.context.hold.answers.items ++ answers)
      × Continues (IsPublished (λ s. s.count) g.L.Run.opening) g.W.Words.draws l.initial.context.posts.conn l.initial.context.posts.now l.initial.messages.items
      (inside l.initial.self.hub l.initial.self.waits l.initial.self.held.items l.initial.seat l.initial.context.told) l.initial.words
      answers l.messages.items (inside l.self.hub l.self.waits l.self.held.items l.seat l.context.told) l.words;
}

abbrev pub decreases-loop-message : goal.decreases-loop-message
decreases-loop-message g l = deque_len l.messages
