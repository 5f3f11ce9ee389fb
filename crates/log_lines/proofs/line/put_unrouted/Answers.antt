-- one member after the other
use Rattle.log_lines.proofs.Written.{written_then}
use Rattle.log_lines.proofs.line.put_unrouted.Goals as goal

pub returns : goal.returns
returns c = written_then _ _ _ _ _ c.in_ok-put_text.ensures (written_then _ _ _ _ _ c.in_ok-put_text-2.ensures c.in_ok-put_count.ensures)
