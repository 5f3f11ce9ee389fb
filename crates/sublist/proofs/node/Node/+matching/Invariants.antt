use Rattle.std.proofs.Common.{length}
use Rattle.sublist.proofs.node.Node.+matching.Given as goal

abbrev pub decreases-matching : goal.decreases-matching
decreases-matching l = length l.tokens
