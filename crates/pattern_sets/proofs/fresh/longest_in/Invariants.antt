-- the longest of those so far and of those left is the longest
use Rattle.std.proofs.Common.{◌≡◌, drop, map, max}
use Rattle.pattern_sets.specs.Longest.{longest_text}
use Rattle.pattern_sets.proofs.fresh.longest_in.Given as goal

abbrev pub invariant-loop-pattern : goal.invariant-loop-pattern
invariant-loop-pattern l =
    max l.most (longest_text (map (λ p. p.now) (drop l.pattern-index l.patterns))) ≡ longest_text (map (λ p. p.now) l.patterns)
