use Rattle.hub_laws.proofs.grants.Law.{no_difference}
use Rattle.hub_laws.proofs.grants.laws.any_event.Goals as goal

pub returns : goal.returns
returns c = no_difference
