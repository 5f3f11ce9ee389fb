-- the token is one of the whole pattern's exactly if it is one of those left, and fewer are left each time
use Rattle.std.proofs.Common.{◌≡◌, length}
use Rattle.pattern_sets.specs.Laws.{has_token}
use Rattle.pattern_sets.proofs.fresh.is_token_of.Given as goal

abbrev pub invariant-loop-one : goal.invariant-loop-one
invariant-loop-one l = has_token l.token l.tokens ≡ has_token l.token l.pattern

abbrev pub decreases-loop-one : goal.decreases-loop-one
decreases-loop-one l = length l.tokens
