use Rattle.std.proofs.Common.{◌≡◌, map}
use Rattle.serde_json.specs.View.{members_view}
use Rattle.policy_walk.specs.Object.{unknown_key, row_of}
use Rattle.policy_walk.proofs.object.first_unknown.Given as goal

abbrev pub invariant-loop-key : goal.invariant-loop-key
invariant-loop-key l = unknown_key (map row_of l.rows) (members_view l.key-iterator) ≡ unknown_key (map row_of l.rows) (members_view l.members.entries)
