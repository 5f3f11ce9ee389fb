-- one metric after the other
use Rattle.server_stats.proofs.texts.Joined.{joined_then}
use Rattle.server_stats.proofs.texts.metrics.put_families.Goals as goal

pub returns : goal.returns
returns c =
    joined_then _ _ _ _ _ (joined_then _ _ _ _ _ (joined_then _ _ _ _ _ (joined_then _ _ _ _ _ (joined_then _ _ _ _ _
    c.in_ok-put_family.ensures c.in_ok-put_family-2.ensures) c.in_ok-put_family-3.ensures) c.in_ok-put_family-4.ensures)
    c.in_ok-put_family-5.ensures) c.in_ok-put_family-6.ensures
