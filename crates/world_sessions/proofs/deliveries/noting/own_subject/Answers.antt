-- it is read of the subject's text
use Rattle.world_sessions.proofs.deliveries.Text.{read_again}
use Rattle.world_sessions.proofs.deliveries.noting.own_subject.Goals as goal

pub returns-in-Ok : goal.returns-in-Ok
returns-in-Ok c = read_again c.args.subject.now c.in-Ok.own c.bytes.result.now _ c.bytes.ensures c.tokens.ensures.grammar c.in-Ok.ensures.tokens
