-- the connection ends, and nothing is kept
use Rattle.std.proofs.Common.{refl, subst}
use Rattle.session_conn.specs.Turns.{port_of}
use Rattle.server_socket.specs.contracts.turns.client.Client.{the_view}
use Rattle.server_socket.specs.turns.Turns.{Client, IsOver}
use Rattle.server_socket.proofs.turns.client.Client.end.Goals as goal

pub returns-clause-ended : goal.returns-clause-ended
returns-clause-ended g c =
    let new = the_view (record { conn = c.ended.new.self; bytes = c.new.result; written = 0; alloc = c.self.inside.alloc }) in
    subst (λ (was : Client). IsOver (port_of g.P.Port.steps g.P.Port.posts g.P.Port.holds) c.args.now was c.args.port.now c.ended.result.stall new c.ended.new.port)
    c.self.view_is
    (record {
      output = c.ended.result;
      ended = c.ended.ensures.ended;
      stall_is = refl;
      kept = c.new.ensures.items;
    })
