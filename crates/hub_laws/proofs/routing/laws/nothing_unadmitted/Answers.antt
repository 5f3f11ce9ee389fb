use Rattle.hub_laws.proofs.routing.Reaching.{nothing_unadmitted}
use Rattle.hub_laws.proofs.routing.laws.nothing_unadmitted.Goals as goal

pub returns : goal.returns
returns c = nothing_unadmitted
