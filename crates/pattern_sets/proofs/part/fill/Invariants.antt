-- what is left completes what was appended
use Rattle.std.proofs.Common.{◌≡◌, ◌++◌, map}
use Rattle.pattern_sets.specs.Samples.{filled}
use Rattle.pattern_sets.proofs.part.fill.Given as goal

abbrev pub invariant-loop-left : goal.invariant-loop-left
invariant-loop-left l =
    map (λ t. t.now) l.part.items ++ filled l.has_tail l.left ≡ map (λ t. t.now) l.initial.part.items ++ filled l.has_tail l.tokens

abbrev pub decreases-loop-left : goal.decreases-loop-left
decreases-loop-left l = l.left
