-- what was found so far, and what is left to look at, make the whole
use Rattle.std.proofs.Common.{◌≡◌, map}
use Rattle.serde_json.specs.View.{members_view}
use Rattle.policy_walk.specs.Object.{row_of}
use Rattle.policy_faults.specs.walk.Walk.{with_unknown}
use Rattle.policy_faults.proofs.walk.object.push_unknown.Given as goal

abbrev pub invariant-loop-key : goal.invariant-loop-key
invariant-loop-key l =
    with_unknown (map row_of l.rows) l.path (members_view l.key-iterator) l.found.items
    ≡ with_unknown (map row_of l.rows) l.path (members_view l.members.entries) l.initial.found.items
