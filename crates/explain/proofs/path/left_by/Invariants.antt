-- what the shares so far leave
use Rattle.std.proofs.Common.{◌≡◌, ◌-◌, take}
use Rattle.std.specs.List.{sum_by}
use Rattle.explain.specs.Path.{weight_of}
use Rattle.explain.proofs.path.left_by.Given as goal

abbrev pub invariant-loop-share : goal.invariant-loop-share
invariant-loop-share l = l.left ≡ 100 - sum_by weight_of (take l.share-index l.shares)
