-- one option after the other
use Rattle.std.proofs.lemmas.Result.{IfOk-weaker}
use Rattle.command_line.proofs.Commands.{with_option}
use Rattle.command_line.proofs.options.check_command.Goals as goal

pub returns : goal.returns
returns c =
    let first = with_option _ _ _ _ _ c.local_command.ensures c.in_ok-arg.ensures c.policy_file_option.ensures.rule c.policy_file_option.ensures.local in
    let next = with_option _ _ _ _ _ first c.in_ok-arg-2.ensures c.flag.ensures.rule c.flag.ensures.local in
    let third = with_option _ _ _ _ _ next c.in_ok-arg-3.ensures c.split_option.ensures.rule c.split_option.ensures.local in
    let fourth = with_option _ _ _ _ _ third c.in_ok-arg-4.ensures c.file_word.ensures.rule c.file_word.ensures.local in
    IfOk-weaker c.arg-5.result _ _ (λ command more. with_option _ _ _ _ _ fourth more c.flag-2.ensures.rule c.flag-2.ensures.local) c.arg-5.ensures
