-- the copies so far are the elements so far
use Rattle.std.proofs.Common.{◌≡◌, take}
use Rattle.base.proofs.items.ItemsCopying.copy.Given as goal

abbrev pub invariant-loop-item : goal.invariant-loop-item
invariant-loop-item g l = l.copies.items ≡ take l.item-index l.item-items
