use Rattle.hub_laws.proofs.routing.Reaching.{reaches_its_views}
use Rattle.hub_laws.proofs.routing.laws.reaches_its_views.Goals as goal

pub returns : goal.returns
returns c = reaches_its_views
