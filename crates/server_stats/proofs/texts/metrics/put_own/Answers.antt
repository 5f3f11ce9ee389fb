-- one metric after the other
use Rattle.server_stats.proofs.texts.Joined.{joined_then}
use Rattle.server_stats.proofs.texts.metrics.put_own.Goals as goal

pub returns : goal.returns
returns c =
    joined_then _ _ _ _ _ (joined_then _ _ _ _ _ (joined_then _ _ _ _ _ (joined_then _ _ _ _ _ (joined_then _ _ _ _ _ (joined_then _ _ _ _ _
    c.in_ok-put_single.ensures c.in_ok-put_single-2.ensures) c.in_ok-put_single-3.ensures) c.in_ok-put_single-4.ensures)
    c.in_ok-put_single-5.ensures) c.in_ok-put_single-6.ensures) c.in_ok-put_single-7.ensures
