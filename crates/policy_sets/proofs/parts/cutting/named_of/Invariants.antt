-- the members so far are made, in front of those that are left
use Rattle.std.proofs.Common.{◌≡◌, ◌++◌, List}
use Rattle.serde_json.specs.View.{members_view}
use Rattle.serde_json.proofs.Views.{Entry}
use Rattle.policy_sets.specs.Sets.{is_in}
use Rattle.policy_sets.specs.parts.Parts.{account_if, each_member}
use Rattle.policy_sets.proofs.parts.cutting.named_of.Given as goal

abbrev pub invariant-loop-key : goal.invariant-loop-key
invariant-loop-key l =
    (done : List Entry) × (l.members.entries ≡ done ++ l.key-iterator) × (members_view l.kept.entries ≡ each_member (account_if (is_in l.names)) (members_view done))
