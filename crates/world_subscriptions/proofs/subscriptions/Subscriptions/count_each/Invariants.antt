-- what is left, counted on the subscriptions as they are now
use Rattle.std.proofs.Common.{◌≡◌, ◌≤◌, drop, length}
use Rattle.world_subscriptions.specs.Counting.{in_turn, entered_ids}
use Rattle.world_subscriptions.proofs.subscriptions.Subscriptions.count_each.Given as goal

abbrev pub invariant-loop-item : goal.invariant-loop-item
invariant-loop-item l =
    (l.next ≤ length l.all)
    × (in_turn (entered_ids (drop l.next l.all) (drop l.item-index l.items)) l.self ≡ in_turn (entered_ids l.all l.items) l.initial.self)
