use Rattle.serde_json.specs.View.{view}
use Rattle.policy_text.proofs.mappings.Own.{are_own}
use Rattle.policy_text.proofs.mappings.source.map_of.Goals as goal

pub map_from-requires : goal.map_from-requires
map_from-requires c = are_own c.in_ok-source.source c.args.path.now (view c.args.value.now) c.in_ok-destinations.destinations c.in_ok-destinations.ensures
