use Rattle.subjects.specs.Subject.{tokens_of}
use Rattle.pattern_sets.proofs.Finding.{with_none, with_some}
use Rattle.pattern_sets.proofs.Searching.{with_queues, without_queue}
use Rattle.pattern_sets.proofs.search.Search.asked.Goals as goal

pub returns-in_ok-found-in-None-clause-alike : goal.returns-in_ok-found-in-None-clause-alike
returns-in_ok-found-in-None-clause-alike g c = λ none.
    without_queue (g.J.Judges.differs c.args.judges.now) c.args.self.now.token.now c.args.self.now.most_of_queues c.args.queues.0.now c.args.queues.1.now c.args.text.now c.in-None.is (c.in_ok-found-in-None.ensures.alike none)

pub returns-in_ok-queue-in-Some-clause-found : goal.returns-in_ok-queue-in-Some-clause-found
returns-in_ok-queue-in-Some-clause-found g c =
    with_some (g.J.Judges.differs c.args.judges.now) (tokens_of c.args.text.now) c.in_ok-queue-in-Some.queue c.with_queue-found.result c.with_queue-found.ensures c.in_ok-queue-in-Some.ensures.found

pub returns-in_ok-queue-in-Some-clause-alike : goal.returns-in_ok-queue-in-Some-clause-alike
returns-in_ok-queue-in-Some-clause-alike g c = λ none.
    with_queues (g.J.Judges.differs c.args.judges.now) c.args.self.now.token.now c.args.self.now.most_of_queues c.in-Some.most c.args.queues.0.now c.args.queues.1.now c.args.text.now c.in-Some.is
    (c.in_ok-queue-in-Some.ensures.alike (with_none c.in_ok-queue-in-Some.queue c.with_queue-found.result c.with_queue-found.ensures none))
