use Rattle.std.proofs.Common.{◌≡◌, drop}
use Rattle.serde_json.specs.View.{items_view}
use Rattle.policy_faults.specs.walk.Mappings.{exceed}
use Rattle.policy_faults.proofs.walk.mappings.exceed.Given as goal

abbrev pub invariant-loop-value : goal.invariant-loop-value
invariant-loop-value l =
    exceed l.left (items_view (drop l.value-index l.values)) ≡ exceed 100 (items_view l.values)
