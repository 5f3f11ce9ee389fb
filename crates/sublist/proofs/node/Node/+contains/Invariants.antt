use Rattle.std.proofs.Common.{length}
use Rattle.sublist.proofs.node.Node.+contains.Given as goal

abbrev pub decreases-contains : goal.decreases-contains
decreases-contains l = length l.path
