use Rattle.hub_laws.proofs.grants.Asked.{are_asked}
use Rattle.hub_laws.proofs.grants.laws.routes_are_asked.Goals as goal

pub returns : goal.returns
returns c = are_asked
