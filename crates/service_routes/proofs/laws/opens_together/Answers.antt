use Rattle.service_routes.proofs.Seen.{others, together}
use Rattle.service_routes.proofs.laws.opens_together.Goals as goal

pub returns-clause-together : goal.returns-clause-together
returns-clause-together c = together

pub returns-clause-others : goal.returns-clause-others
returns-clause-others c = others
