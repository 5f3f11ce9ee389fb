-- one word after the other, then the option
use Rattle.std.proofs.lemmas.Result.{IfOk-weaker}
use Rattle.command_line.proofs.Commands.{with_option}
use Rattle.command_line.proofs.question.explain_command.Goals as goal

pub returns : goal.returns
returns c =
    let first = with_option _ _ _ _ _ c.local_command.ensures c.in_ok-arg.ensures c.wanted.ensures.rule c.wanted.ensures.local in
    let next = with_option _ _ _ _ _ first c.in_ok-arg-2.ensures c.wanted-2.ensures.rule c.wanted-2.ensures.local in
    let third = with_option _ _ _ _ _ next c.in_ok-arg-3.ensures c.wanted-3.ensures.rule c.wanted-3.ensures.local in
    let fourth = with_option _ _ _ _ _ third c.in_ok-arg-4.ensures c.word.ensures.rule c.word.ensures.local in
    IfOk-weaker c.arg-5.result _ _ (λ command more. with_option _ _ _ _ _ fourth more c.policy_file_option.ensures.rule c.policy_file_option.ensures.local) c.arg-5.ensures
