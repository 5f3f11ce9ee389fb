-- the next one begins again
use Rattle.std.proofs.Common.{◌<◌, get_or, length, arith}
use Rattle.std.proofs.lemmas.List.{get_or_default}
use Rattle.std.proofs.lemmas.List.Edits.{map_over_more}
use Rattle.server_stats.specs.Counts.{no_counts, since_start}
use Rattle.server_stats.proofs.tally.begin_again.Goals as goal

pub loop-counts-preserved : goal.loop-counts-preserved
loop-counts-preserved c =
    let next = get_or c.loop-counts.accounts c.loop-counts.counts-index no_counts in
    let within : c.loop-counts.counts-index < length c.loop-counts.accounts = omega arith in
    rw c.since_start.ensures
    (map_over_more since_start c.args.accounts.now c.loop-counts.accounts c.loop-counts.counts-index next c.loop-counts-test.true
    c.loop-counts.invariant (get_or_default c.loop-counts.accounts c.loop-counts.counts-index no_counts next within))
