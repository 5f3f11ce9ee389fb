use Rattle.std.proofs.Common.{◌∙◌, ◌+◌, sym, arith, below_more}
use Rattle.pattern_sets.specs.Asking.{AllAlike}
use Rattle.pattern_sets.proofs.Finding.{is_first, is_found}
use Rattle.pattern_sets.proofs.search.Search.first.Goals as goal

pub returns-then-is_some-clause-found : goal.returns-then-is_some-clause-found
returns-then-is_some-clause-found g c = is_found (g.J.Judges.differs c.args.judges.now) c.args.self.now.token.now (c.loop-before.before + 1) c.in_ok-found.found c.in_ok-found.ensures.found

pub returns-then-is_some-clause-exact : goal.returns-then-is_some-clause-exact
returns-then-is_some-clause-exact g c =
    is_first (g.J.Judges.differs c.args.judges.now) c.args.self.now c.args.has_tail c.loop-before.before c.in_ok-found.found (sym c.is_some.ensures ∙ c.if-is_some.true) c.loop-before-test.true c.in_ok-found.ensures.found
    c.loop-before.invariant

pub loop-before-preserved : goal.loop-before-preserved
loop-before-preserved g c =
    below_more (λ n. AllAlike (g.J.Judges.differs c.args.judges.now) c.args.self.now c.args.has_tail (n + 1)) c.loop-before.before c.loop-before.invariant
    (c.in_ok-found.ensures.alike (sym c.is_some.ensures ∙ c.if-is_some.false))

pub returns-clause-exact : goal.returns-clause-exact
returns-clause-exact g c = λ n less. c.loop-before.invariant n (omega (arith, less, c.loop-before-test.false))
