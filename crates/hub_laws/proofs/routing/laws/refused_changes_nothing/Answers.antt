use Rattle.hub_laws.proofs.routing.Reloading.{refused_changes_nothing}
use Rattle.hub_laws.proofs.routing.laws.refused_changes_nothing.Goals as goal

pub returns : goal.returns
returns c = refused_changes_nothing
