-- those counted and those left are all
use Rattle.std.proofs.Common.{◌≡◌, ◌≤◌, ◌+◌, length}
use Rattle.mapping.specs.templates.Wildcards.{count_stars}
use Rattle.mapping.proofs.templates.lengths.count_stars.Given as goal

abbrev pub invariant-loop-token : goal.invariant-loop-token
invariant-loop-token l = record {
  counted : l.count + count_stars l.tokens ≡ count_stars l.pattern;
  few : l.count + length l.tokens ≤ length l.pattern;
  bound : length l.pattern ≤ 512;
}

abbrev pub decreases-loop-token : goal.decreases-loop-token
decreases-loop-token l = length l.tokens
