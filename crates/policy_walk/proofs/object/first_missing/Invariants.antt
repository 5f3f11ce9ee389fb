use Rattle.std.proofs.Common.{◌≡◌, map, drop}
use Rattle.serde_json.specs.View.{view}
use Rattle.policy_walk.specs.Object.{missing_key, row_of}
use Rattle.policy_walk.proofs.object.first_missing.Given as goal

abbrev pub invariant-loop-key : goal.invariant-loop-key
invariant-loop-key l = missing_key (map row_of (drop l.key-index l.rows)) (view l.value) ≡ missing_key (map row_of l.rows) (view l.value)
