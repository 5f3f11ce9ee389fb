use Rattle.std.proofs.Common.{arith}
use Rattle.account_mappings.proofs.Draws.{exceeds_all}
use Rattle.account_mappings.proofs.account_map.exceed.Goals as goal

pub loop-destination-init : goal.loop-destination-init
loop-destination-init c = record { found = exceeds_all c.args.destinations.now; low = omega arith }
