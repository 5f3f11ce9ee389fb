-- the groups so far, and the members that are left to join
use Rattle.std.proofs.Common.{◌≡◌, [], length, drop}
use Rattle.world_subscriptions.specs.queue_choice.Joined.{table_of, joined_all}
use Rattle.world_subscriptions.proofs.queue_choice.groups.Groups.of.Given as goal

abbrev pub invariant-loop-member : goal.invariant-loop-member
invariant-loop-member l =
    (joined_all (table_of l.groups) (drop l.member-index l.members) ≡ joined_all ([], []) l.members)
    × (length l.groups.names.keys ≡ length l.groups.list.items)
