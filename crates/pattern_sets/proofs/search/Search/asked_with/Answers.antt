use Rattle.std.proofs.Common.{◌∙◌, ◌+◌, sym, arith, below_more}
use Rattle.pattern_sets.specs.Asking.{IsQueueAlike}
use Rattle.pattern_sets.proofs.Finding.{both}
use Rattle.pattern_sets.proofs.search.Search.asked_with.Goals as goal

pub loop-before-preserved : goal.loop-before-preserved
loop-before-preserved g c =
    below_more (λ n. IsQueueAlike (g.J.Judges.differs c.args.judges.now) c.args.self.now.token.now (n + 1) c.args.queues.0.now c.args.queues.1.now c.args.text.now) c.loop-before.before c.loop-before.invariant
    (c.in_ok-queue.ensures.alike (sym c.is_some.ensures ∙ c.if-is_some.false))

pub returns-then-is_some-clause-alike : goal.returns-then-is_some-clause-alike
returns-then-is_some-clause-alike g c = λ none. absurd (both _ (sym c.is_some.ensures ∙ c.if-is_some.true) none)

pub returns-clause-alike : goal.returns-clause-alike
returns-clause-alike g c = λ none n less. c.loop-before.invariant n (omega (arith, less, c.loop-before-test.false))
