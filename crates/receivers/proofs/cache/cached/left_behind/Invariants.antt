-- what is left so far, and what the views so far keep, are the number that was given
use Rattle.std.proofs.Common.{◌≡◌, ◌+◌, take}
use Rattle.std.specs.List.{sum_by}
use Rattle.receivers.specs.cache.Small.{count_with}
use Rattle.receivers.proofs.cache.cached.left_behind.Given as goal

abbrev pub invariant-loop-view : goal.invariant-loop-view
invariant-loop-view l = l.left + sum_by count_with (take l.view-index l.views) ≡ l.most
