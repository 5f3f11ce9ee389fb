use Rattle.hub_laws.proofs.routing.Within.{routes_within, seen_within, reaches_its_set}
use Rattle.hub_laws.proofs.routing.laws.reaches_its_set.Goals as goal

pub returns-clause-routes : goal.returns-clause-routes
returns-clause-routes c = routes_within

pub returns-clause-seen : goal.returns-clause-seen
returns-clause-seen c = seen_within

pub returns-clause-reaches : goal.returns-clause-reaches
returns-clause-reaches c = reaches_its_set
