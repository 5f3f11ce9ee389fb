-- what is left, once it is posted, completes the run, and so does what is noted of it and which points are passed
use Rattle.std.proofs.Common.{◌≡◌, ◌≤◌, ◌+◌, ◌*◌, length}
use Rattle.shared_waits.proofs.runs.Runs.{Completes}
use Rattle.shared_hub.specs.Entering.{IsOfferedBy, IsPostedBy}
use Rattle.server_port.proofs.Holds.{NotesOn, PassesOn}
use Rattle.server_port.proofs.entering.ServerPortPort.publish.Given as goal

abbrev pub invariant-loop-posts : goal.invariant-loop-posts
invariant-loop-posts g l = record {
  posted : Completes (λ old e r new. IsPostedBy g.L.Run.opening old.seat.count e r new.seat.count) (λ old new. new.seat.count ≡ old.seat.count) g.W.Words.draws l.posts.conn l.posts.now
      l.initial.messages.items l.initial.self l.initial.words l.messages.items l.self l.words;
  noted : NotesOn (IsOfferedBy g.L.Run.opening) g.W.Words.draws l.posts.conn l.posts.now
      l.initial.messages.items l.initial.self.seat.count l.initial.words l.initial.self.noted l.messages.items l.self.seat.count l.words l.self.noted;
  rotations : l.self.seat.rotations + 3 * length l.messages.items ≤ l.initial.self.seat.rotations + 3 * length l.initial.messages.items;
  why : l.self.course.why ≡ l.initial.self.course.why;
  points : PassesOn g.G.Gate.passes (length l.initial.messages.items) l.initial.self.gate l.initial.self.is_spent (length l.messages.items) l.self.gate l.self.is_spent;
}

abbrev pub decreases-loop-posts : goal.decreases-loop-posts
decreases-loop-posts g l = length l.messages.items
