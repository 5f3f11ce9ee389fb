use Rattle.hub_laws.proofs.grants.Published.{are_told}
use Rattle.hub_laws.proofs.grants.laws.requests_are_told.Goals as goal

pub returns : goal.returns
returns c = are_told
