-- one number after the other
use Rattle.log_lines.proofs.Written.{written_then}
use Rattle.log_lines.proofs.line.put_reload.Goals as goal

pub returns : goal.returns
returns c = written_then _ _ _ _ _ c.in_ok-put_count.ensures (written_then _ _ _ _ _ c.in_ok-put_count-2.ensures c.in_ok-put_count-3.ensures)
