-- one member after the other
use Rattle.server_stats.proofs.texts.Written.{written_then}
use Rattle.server_stats.proofs.texts.line.put_totals.Goals as goal

pub returns : goal.returns
returns c =
    written_then _ _ _ _ _ c.in_ok-put_count.ensures (written_then _ _ _ _ _ c.in_ok-put_text.ensures (written_then _ _ _ _ _ c.in_ok-put_text-2.ensures
    (written_then _ _ _ _ _ c.in_ok-put_count-2.ensures (written_then _ _ _ _ _ c.in_ok-put_count-3.ensures (written_then _ _ _ _ _ c.in_ok-put_count-4.ensures
    (written_then _ _ _ _ _ c.in_ok-put_count-5.ensures (written_then _ _ _ _ _ c.in_ok-put_count-6.ensures (written_then _ _ _ _ _ c.in_ok-put_count-7.ensures c.in_ok-put_count-8.ensures))))))))
