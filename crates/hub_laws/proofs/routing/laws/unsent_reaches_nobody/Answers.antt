use Rattle.hub_laws.proofs.routing.Reaching.{unsent_reaches_nobody}
use Rattle.hub_laws.proofs.routing.laws.unsent_reaches_nobody.Goals as goal

pub returns : goal.returns
returns c = unsent_reaches_nobody
