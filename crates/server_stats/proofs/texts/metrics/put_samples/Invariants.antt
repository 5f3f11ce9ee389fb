use Rattle.std.proofs.Common.{◌≡◌, ◌++◌, drop}
use Rattle.std.specs.Prelude.{flat_map}
use Rattle.server_stats.specs.texts.Metrics.{sample_of}
use Rattle.server_stats.proofs.texts.metrics.put_samples.Given as goal

-- the text so far and the lines of what is left are all of it
abbrev pub invariant-loop-account : goal.invariant-loop-account
invariant-loop-account l = l.out.items ++ flat_map (sample_of l.metric) (drop l.account-index l.accounts) ≡ l.fn.out.items ++ flat_map (sample_of l.metric) l.accounts
