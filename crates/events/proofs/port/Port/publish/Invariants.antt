-- what is left, once it is offered, completes the run
use Rattle.std.proofs.Common.{◌≡◌}
use Rattle.std.specs.VecDeque.{deque_len}
use Rattle.events.proofs.Posted.{Continues}
use Rattle.events.proofs.port.Port.publish.Given as goal

abbrev pub invariant-loop-message : goal.invariant-loop-message
invariant-loop-message g l = record {
  place : g.Self.Port.place l.self ≡ g.Self.Port.place l.initial.self;
  posted : Continues g.Self.Port.posts g.Self.Port.holds g.W.Words.draws l.conn l.now l.initial.messages.items l.initial.self l.initial.words l.messages.items l.self l.words;
}

abbrev pub decreases-loop-message : goal.decreases-loop-message
decreases-loop-message g l = deque_len l.messages
