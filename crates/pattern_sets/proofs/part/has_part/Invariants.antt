-- what is left has a part exactly if the whole has one, and fewer tokens are left each time
use Rattle.std.proofs.Common.{◌≡◌, length}
use Rattle.std.specs.Prelude.{is_some}
use Rattle.pattern_sets.specs.Samples.{part}
use Rattle.pattern_sets.proofs.part.has_part.Given as goal

abbrev pub invariant-loop-token : goal.invariant-loop-token
invariant-loop-token l = is_some (part l.length.has_tail l.left l.rest) ≡ is_some (part l.length.has_tail l.length.tokens l.pattern)

abbrev pub decreases-loop-token : goal.decreases-loop-token
decreases-loop-token l = length l.rest
