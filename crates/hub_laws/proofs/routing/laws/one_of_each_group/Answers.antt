use Rattle.hub_laws.proofs.routing.Reaching.{one_of_each_group}
use Rattle.hub_laws.proofs.routing.laws.one_of_each_group.Goals as goal

pub returns : goal.returns
returns c = one_of_each_group
