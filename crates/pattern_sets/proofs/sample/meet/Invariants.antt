-- the whole parts meet exactly if what is left of both does
use Rattle.std.proofs.Common.{◌≡◌, drop, map}
use Rattle.pattern_sets.specs.Samples.{meet}
use Rattle.pattern_sets.proofs.sample.meet.Given as goal

abbrev pub invariant-loop-at : goal.invariant-loop-at
invariant-loop-at l =
    meet (drop l.at (map (λ t. t.now) l.one)) (drop l.at (map (λ t. t.now) l.other)) ≡ meet (map (λ t. t.now) l.one) (map (λ t. t.now) l.other)
