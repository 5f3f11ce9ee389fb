use Rattle.pattern_sets.proofs.Searching.{no_queue, other_queue}
use Rattle.pattern_sets.proofs.search.Search.queue_asked.Goals as goal

pub returns-in-None-clause-alike : goal.returns-in-None-clause-alike
returns-in-None-clause-alike g c = λ none.
    no_queue (g.J.Judges.differs c.args.judges.now) c.args.self.now.token.now c.args.tokens c.args.queues.0.now c.args.queues.1.now c.args.text.now c.in_ok-found.found c.in_ok-found.ensures c.in-None.is

pub returns-in_ok-asked-in-Some-clause-alike : goal.returns-in_ok-asked-in-Some-clause-alike
returns-in_ok-asked-in-Some-clause-alike g c = λ none.
    other_queue (g.J.Judges.differs c.args.judges.now) c.args.self.now.token.now c.args.tokens c.args.queues.0.now c.args.queues.1.now c.args.text.now c.in_ok-found.found c.in-Some.queue c.in_ok-found.ensures c.in-Some.is
    (c.in_ok-asked-in-Some.ensures.alike none)
