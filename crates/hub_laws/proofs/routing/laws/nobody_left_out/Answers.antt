use Rattle.hub_laws.proofs.routing.Reaching.{nobody_left_out}
use Rattle.hub_laws.proofs.routing.laws.nobody_left_out.Goals as goal

pub returns : goal.returns
returns c = nobody_left_out
