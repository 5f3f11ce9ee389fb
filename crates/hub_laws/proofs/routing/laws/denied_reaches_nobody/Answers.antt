use Rattle.hub_laws.proofs.routing.Denying.{denied_reaches_nobody}
use Rattle.hub_laws.proofs.routing.laws.denied_reaches_nobody.Goals as goal

pub returns : goal.returns
returns c = denied_reaches_nobody
