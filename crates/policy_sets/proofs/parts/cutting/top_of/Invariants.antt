-- the members so far are made, in front of those that are left
use Rattle.std.proofs.Common.{◌≡◌, ◌++◌, List}
use Rattle.serde_json.specs.View.{members_view}
use Rattle.serde_json.proofs.Views.{Entry}
use Rattle.policy_sets.specs.Sets.{is_in}
use Rattle.policy_sets.specs.parts.Parts.{top_kept, each_member}
use Rattle.policy_sets.proofs.parts.cutting.top_of.Given as goal

abbrev pub invariant-loop-key : goal.invariant-loop-key
invariant-loop-key l =
    (done : List Entry) × (l.members.entries ≡ done ++ l.key-iterator) × (members_view l.top.entries ≡ each_member (top_kept (is_in l.names)) (members_view done))
