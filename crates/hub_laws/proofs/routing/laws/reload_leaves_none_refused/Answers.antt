use Rattle.hub_laws.proofs.routing.Reloading.{reload_leaves_none_refused}
use Rattle.hub_laws.proofs.routing.laws.reload_leaves_none_refused.Goals as goal

pub returns : goal.returns
returns c = reload_leaves_none_refused
