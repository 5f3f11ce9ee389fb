use Rattle.std.proofs.Common.{◌≡◌, map, drop}
use Rattle.serde_json.specs.View.{view}
use Rattle.policy_walk.specs.Object.{row_of}
use Rattle.policy_faults.specs.walk.Walk.{with_missing}
use Rattle.policy_faults.proofs.walk.object.push_missing.Given as goal

abbrev pub invariant-loop-key : goal.invariant-loop-key
invariant-loop-key l =
    with_missing (map row_of (drop l.key-index l.rows)) l.path (view l.value) l.found.items
    ≡ with_missing (map row_of l.rows) l.path (view l.value) l.initial.found.items
