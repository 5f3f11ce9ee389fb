-- the hashes and places of the patterns so far
use Rattle.std.proofs.Common.{take, map}
use Rattle.subjects.specs.pattern_groups.Places.{AreHashed}
use Rattle.subjects.proofs.pattern_groups.index.hashed.Given as goal

abbrev pub invariant-loop-pattern : goal.invariant-loop-pattern
invariant-loop-pattern l = AreHashed (map (λ p. p.now) (take l.pattern-index l.patterns)) l.hashes.items l.choices.items
