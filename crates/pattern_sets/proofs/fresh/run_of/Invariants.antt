-- a run of so many, which grows
use Rattle.std.proofs.Common.{◌≡◌, ◌≤◌, ◌+◌, ◌-◌, replicate, vec_len}
use Rattle.pattern_sets.proofs.fresh.run_of.Given as goal

abbrev pub invariant-loop-run : goal.invariant-loop-run
invariant-loop-run l = (l.run.items ≡ replicate (vec_len l.run) 120) × (vec_len l.run ≤ l.bytes + 1)

abbrev pub decreases-loop-run : goal.decreases-loop-run
decreases-loop-run l = l.bytes + 1 - vec_len l.run
