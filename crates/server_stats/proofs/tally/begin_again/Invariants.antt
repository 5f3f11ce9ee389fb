use Rattle.std.proofs.Common.{◌≡◌, ◌++◌, drop, map, take}
use Rattle.server_stats.specs.Counts.{since_start}
use Rattle.server_stats.proofs.tally.begin_again.Given as goal

-- those so far begin again, and the others are as they were
abbrev pub invariant-loop-counts : goal.invariant-loop-counts
invariant-loop-counts l = l.accounts ≡ map since_start (take l.counts-index l.fn.accounts) ++ drop l.counts-index l.fn.accounts
