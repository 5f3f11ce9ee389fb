-- the shares of the destinations so far
use Rattle.std.proofs.Common.{◌≡◌, map, take}
use Rattle.explain.specs.Path.{share_of}
use Rattle.explain.proofs.path.taken.Given as goal

abbrev pub invariant-loop-destination : goal.invariant-loop-destination
invariant-loop-destination l = l.shares.items ≡ map (share_of l.rows l.account l.subject) (take l.destination-index l.destinations)
