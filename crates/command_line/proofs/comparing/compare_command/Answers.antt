-- one word after the other, then the option
use Rattle.std.proofs.lemmas.Result.{IfOk-weaker}
use Rattle.command_line.proofs.Commands.{with_option}
use Rattle.command_line.proofs.comparing.compare_command.Goals as goal

pub returns : goal.returns
returns c =
    let first = with_option _ _ _ _ _ c.local_command.ensures c.in_ok-arg.ensures c.wanted.ensures.rule c.wanted.ensures.local in
    let next = with_option _ _ _ _ _ first c.in_ok-arg-2.ensures c.wanted-2.ensures.rule c.wanted-2.ensures.local in
    IfOk-weaker c.arg-3.result _ _ (λ command more. with_option _ _ _ _ _ next more c.flag.ensures.rule c.flag.ensures.local) c.arg-3.ensures
