-- with each queue so far it is judged alike
use Rattle.pattern_sets.specs.Asking.{AreQueuesAlike}
use Rattle.pattern_sets.proofs.search.Search.asked_with.Given as goal

abbrev pub invariant-loop-before : goal.invariant-loop-before
invariant-loop-before g l = AreQueuesAlike (g.J.Judges.differs l.judges) l.self.token.now l.before l.queues.0.now l.queues.1.now l.text
