-- the reasons so far
use Rattle.std.proofs.Common.{◌≡◌, map, take}
use Rattle.pattern_sets.proofs.sets.refusing_of.Given as goal

abbrev pub invariant-loop-subject : goal.invariant-loop-subject
invariant-loop-subject l = map (λ r. r.subject.now) l.all.items ≡ map (λ p. p.now) (take l.subject-index l.patterns)
