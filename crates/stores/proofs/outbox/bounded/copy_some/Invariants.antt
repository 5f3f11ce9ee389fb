-- what was copied, and what is still to be of the others, is what was there and what is to be of all
use Rattle.std.proofs.Common.{◌≡◌, ◌++◌, ◌-◌, take, drop, length, flat_map}
use Rattle.stores.proofs.outbox.bounded.copy_some.Given as goal

abbrev pub invariant-loop-item : goal.invariant-loop-item
invariant-loop-item g l =
    let each = g.T.Several.each in
    record {
      copied : flat_map each l.copies.items ++ take l.left (drop l.gone (flat_map each (drop l.item-index l.items))) ≡ flat_map each l.initial.copies.items ++ take l.most (drop l.initial.gone (flat_map each l.items));
      left : l.left - (length (flat_map each (drop l.item-index l.items)) - l.gone) ≡ l.most - (length (flat_map each l.items) - l.initial.gone);
    }
