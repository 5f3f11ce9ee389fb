-- what is left is more than what may be left exactly where all is more than what may be
use Rattle.std.proofs.Common.{◌≡◌, length, ltb}
use Rattle.mapping.proofs.templates.lengths.is_longer.Given as goal

abbrev pub invariant-loop-tokens : goal.invariant-loop-tokens
invariant-loop-tokens l = ltb l.left (length l.tokens) ≡ ltb l.most (length l.fn.tokens)

abbrev pub decreases-loop-tokens : goal.decreases-loop-tokens
decreases-loop-tokens l = length l.tokens
