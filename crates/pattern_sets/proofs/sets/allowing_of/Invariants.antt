-- the reasons so far
use Rattle.std.proofs.Common.{◌≡◌, map, take}
use Rattle.pattern_sets.proofs.sets.allowing_of.Given as goal

abbrev pub invariant-loop-subject : goal.invariant-loop-subject
invariant-loop-subject l =
    (map (λ a. a.reason.subject.now) l.all.items ≡ map (λ p. p.now) (take l.subject-index l.patterns))
    × (map (λ a. a.reach) l.all.items ≡ map (λ p. l.reach) (take l.subject-index l.patterns))
