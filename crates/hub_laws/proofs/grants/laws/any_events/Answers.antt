use Rattle.hub_laws.proofs.grants.Runs.{never_difference}
use Rattle.hub_laws.proofs.grants.laws.any_events.Goals as goal

pub returns : goal.returns
returns c = never_difference
