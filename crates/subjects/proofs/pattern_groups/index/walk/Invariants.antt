-- none so far passes
use Rattle.std.proofs.Common.{ℕ, ◌≡◌, ◌<◌, false}
use Rattle.subjects.proofs.pattern_groups.index.walk.Given as goal

abbrev pub invariant-loop-index : goal.invariant-loop-index
invariant-loop-index g l = (j : ℕ) → j < l.index → g.P.Patterns.passes l.patterns j ≡ false
