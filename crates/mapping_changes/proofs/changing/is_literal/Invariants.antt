-- fewer tokens are left each time
use Rattle.std.proofs.Common.{length}
use Rattle.mapping_changes.proofs.changing.is_literal.Given as goal

abbrev pub decreases-loop-token : goal.decreases-loop-token
decreases-loop-token l = length l.tokens
