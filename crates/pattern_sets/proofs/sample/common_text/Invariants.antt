-- what is left completes the text so far
use Rattle.std.proofs.Common.{◌≡◌, ◌++◌, drop, map}
use Rattle.subjects.specs.Outside.{dotted}
use Rattle.pattern_sets.specs.Samples.{either_each}
use Rattle.pattern_sets.proofs.sample.common_text.Given as goal

abbrev pub invariant-loop-at : goal.invariant-loop-at
invariant-loop-at l =
    l.text.items ++ dotted (either_each l.fresh (drop l.at (map (λ t. t.now) l.one)) (drop l.at (map (λ t. t.now) l.other)))
    ≡ dotted (either_each l.fresh (map (λ t. t.now) l.one) (map (λ t. t.now) l.other))
