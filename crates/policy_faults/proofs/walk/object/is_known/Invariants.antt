use Rattle.std.proofs.Common.{◌≡◌, map, drop}
use Rattle.policy_walk.specs.Object.{is_known, row_of}
use Rattle.policy_faults.proofs.walk.object.is_known.Given as goal

abbrev pub invariant-loop-known : goal.invariant-loop-known
invariant-loop-known l =
    is_known (map row_of (drop l.known-index l.rows)) l.key ≡ is_known (map row_of l.rows) l.key
