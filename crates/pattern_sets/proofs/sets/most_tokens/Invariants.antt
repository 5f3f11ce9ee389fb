-- the longest of those so far and of those left is the longest
use Rattle.std.proofs.Common.{◌≡◌, drop, map, max}
use Rattle.pattern_sets.specs.Longest.{longest}
use Rattle.pattern_sets.proofs.sets.most_tokens.Given as goal

abbrev pub invariant-loop-pattern : goal.invariant-loop-pattern
invariant-loop-pattern l = max l.most (longest (map (λ p. p.now) (drop l.pattern-index l.patterns))) ≡ longest (map (λ p. p.now) l.patterns)
