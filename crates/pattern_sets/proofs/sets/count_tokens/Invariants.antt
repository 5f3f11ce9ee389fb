-- those counted and those left are all, and fewer are left each time
use Rattle.std.proofs.Common.{◌≡◌, ◌+◌, ◌≤◌, length}
use Rattle.pattern_sets.proofs.sets.count_tokens.Given as goal

abbrev pub invariant-loop-token : goal.invariant-loop-token
invariant-loop-token l = (l.count + length l.rest ≡ length l.pattern) × (length l.pattern ≤ 512)

abbrev pub decreases-loop-token : goal.decreases-loop-token
decreases-loop-token l = length l.rest
