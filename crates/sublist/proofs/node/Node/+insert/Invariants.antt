use Rattle.std.proofs.Common.{◌+◌, length}
use Rattle.sublist.proofs.node.Node.+insert.Given as goal

abbrev pub decreases-insert : goal.decreases-insert
decreases-insert l = length l.path + length l.path

abbrev pub decreases-grown : goal.decreases-grown
decreases-grown l = length l.path + length l.path + 1
