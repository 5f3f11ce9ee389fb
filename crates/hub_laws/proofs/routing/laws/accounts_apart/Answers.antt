use Rattle.hub_laws.proofs.routing.Reaching.{accounts_apart}
use Rattle.hub_laws.proofs.routing.laws.accounts_apart.Goals as goal

pub returns : goal.returns
returns c = accounts_apart
