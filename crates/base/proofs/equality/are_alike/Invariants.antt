-- the elements so far are the same
use Rattle.std.proofs.Common.{◌≡◌, take}
use Rattle.base.proofs.equality.are_alike.Given as goal

abbrev pub invariant-loop-index : goal.invariant-loop-index
invariant-loop-index g l = take l.index l.all ≡ take l.index l.others
