-- the samples of each length so far are judged alike
use Rattle.std.proofs.Common.{ℕ, ◌<◌, ◌+◌}
use Rattle.pattern_sets.specs.Asking.{AllAlike}
use Rattle.pattern_sets.proofs.search.Search.first.Given as goal

abbrev pub invariant-loop-before : goal.invariant-loop-before
invariant-loop-before g l = (n : ℕ) → n < l.before → AllAlike (g.J.Judges.differs l.judges) l.self l.has_tail (n + 1)
