-- what is left decides the same as the whole
use Rattle.std.proofs.Common.{◌≡◌, length}
use Rattle.mapping.specs.templates.Wildcards.{has_tail}
use Rattle.mapping.proofs.templates.lengths.has_tail.Given as goal

abbrev pub invariant-loop-token : goal.invariant-loop-token
invariant-loop-token l = has_tail l.tokens ≡ has_tail l.fn.tokens

abbrev pub decreases-loop-token : goal.decreases-loop-token
decreases-loop-token l = length l.tokens
