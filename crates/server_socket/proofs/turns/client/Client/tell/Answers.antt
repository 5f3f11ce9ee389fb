-- all is written, and the connection stands
use Rattle.std.proofs.Common.{Bool, sym, subst}
use Rattle.server_socket.specs.turns.Turns.{IsTurn}
use Rattle.server_socket.proofs.turns.client.Client.tell.Goals as goal

pub returns-in-None-clause-turn : goal.returns-in-None-clause-turn
returns-in-None-clause-turn g c =
    let out = c.in-None.ensures.out in
    subst (λ (f : Bool). IsTurn c.write_out.new.self (g.S.NonBlockingSink.failed c.args.writer.now) f (g.S.NonBlockingSink.waits c.write_out.new.writer) c.turn_of.result) (sym out.0.fine)
    (c.turn_of.ensures.turn c.write_out.new.self (g.S.NonBlockingSink.failed c.args.writer.now) (g.S.NonBlockingSink.waits c.write_out.new.writer) out.0.none out.1)
