use Rattle.service_routes.proofs.Seen.{none}
use Rattle.service_routes.proofs.laws.answers_to_routes.Goals as goal

pub returns : goal.returns
returns c = none
