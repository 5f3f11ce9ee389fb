-- the elements so far and what is left are as many as are asked for
use Rattle.std.proofs.Common.{◌≡◌, ◌+◌, take, length, flat_map}
use Rattle.stores.proofs.outbox.bounded.count_whole.Given as goal

abbrev pub invariant-counting : goal.invariant-counting
invariant-counting g l =
    let each = g.T.Several.each in
    length (flat_map each (take l.whole l.ring.items)) + l.left ≡ l.count
