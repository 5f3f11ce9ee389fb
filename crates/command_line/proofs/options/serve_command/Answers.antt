-- one option after the other
use Rattle.std.proofs.lemmas.Result.{IfOk-weaker}
use Rattle.command_line.proofs.Commands.{with_option}
use Rattle.command_line.proofs.options.serve_command.Goals as goal

pub returns : goal.returns
returns c =
    let first = with_option _ _ _ _ _ c.local_command.ensures c.in_ok-arg.ensures c.policy_option.ensures.rule c.policy_option.ensures.local in
    let next = with_option _ _ _ _ _ first c.in_ok-arg-2.ensures c.listen_option.ensures.rule c.listen_option.ensures.local in
    let third = with_option _ _ _ _ _ next c.in_ok-arg-3.ensures c.workers_option.ensures.rule c.workers_option.ensures.local in
    let fourth = with_option _ _ _ _ _ third c.in_ok-arg-4.ensures c.outbox_option.ensures.rule c.outbox_option.ensures.local in
    let fifth = with_option _ _ _ _ _ fourth c.in_ok-arg-5.ensures c.history_option.ensures.rule c.history_option.ensures.local in
    let sixth = with_option _ _ _ _ _ fifth c.in_ok-arg-6.ensures c.history_bytes_option.ensures.rule c.history_bytes_option.ensures.local in
    let seventh = with_option _ _ _ _ _ sixth c.in_ok-arg-7.ensures c.connections_option.ensures.rule c.connections_option.ensures.local in
    let eighth = with_option _ _ _ _ _ seventh c.in_ok-arg-8.ensures c.keepalive_option.ensures.rule c.keepalive_option.ensures.local in
    let ninth = with_option _ _ _ _ _ eighth c.in_ok-arg-9.ensures c.tell_removed_option.ensures.rule c.tell_removed_option.ensures.local in
    let tenth = with_option _ _ _ _ _ ninth c.in_ok-arg-10.ensures c.log_option.ensures.rule c.log_option.ensures.local in
    let eleventh = with_option _ _ _ _ _ tenth c.in_ok-arg-11.ensures c.stats_option.ensures.rule c.stats_option.ensures.local in
    IfOk-weaker c.arg-12.result _ _ (λ command more. with_option _ _ _ _ _ eleventh more c.stats_file_option.ensures.rule c.stats_file_option.ensures.local) c.arg-12.ensures
