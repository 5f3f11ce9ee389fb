-- what has been appended and what is still to be are all
use Rattle.std.proofs.Common.{◌≡◌, ◌++◌, drop}
use Rattle.world_views.proofs.viewing.add_items.Given as goal

abbrev pub invariant-loop-item : goal.invariant-loop-item
invariant-loop-item l = l.all.items ++ drop l.item-index l.items ≡ l.initial.all.items ++ l.items
