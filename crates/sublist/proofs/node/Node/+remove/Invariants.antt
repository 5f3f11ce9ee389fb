use Rattle.std.proofs.Common.{length}
use Rattle.sublist.proofs.node.Node.+remove.Given as goal

abbrev pub decreases-remove : goal.decreases-remove
decreases-remove l = length l.path
