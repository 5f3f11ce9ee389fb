-- one member after the other
use Rattle.std.proofs.Common.{ℕ, List, subst}
use Rattle.std.specs.Prelude.{codes}
use Rattle.server_stats.specs.texts.Line.{text, IsWritten}
use Rattle.server_stats.proofs.texts.Written.{written_then}
use Rattle.server_stats.proofs.texts.line.put_account_members.Goals as goal

pub returns : goal.returns
returns c =
    let named : IsWritten c.args.out.now c.put_text.new.out (text (codes "account") c.args.account.now.name) =
    subst (λ (bytes : List ℕ). IsWritten c.args.out.now c.put_text.new.out (text (codes "account") bytes)) c.as_slice.ensures c.in_ok-put_text.ensures
    in
    written_then _ _ _ _ _ named (written_then _ _ _ _ _ c.in_ok-put_count.ensures (written_then _ _ _ _ _ c.in_ok-put_count-2.ensures
    (written_then _ _ _ _ _ c.in_ok-put_count-3.ensures (written_then _ _ _ _ _ c.in_ok-put_count-4.ensures
    (written_then _ _ _ _ _ c.in_ok-put_count-5.ensures c.in_ok-put_count-6.ensures)))))
