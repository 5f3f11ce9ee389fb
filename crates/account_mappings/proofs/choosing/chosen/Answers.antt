use Rattle.std.proofs.Common.{arith}
use Rattle.account_mappings.proofs.Draws.{above_chosen}
use Rattle.account_mappings.proofs.choosing.chosen.Goals as goal

pub loop-index-init : goal.loop-index-init
loop-index-init c = record { found = above_chosen c.args.draw c.args.destinations.now; low = omega arith }
