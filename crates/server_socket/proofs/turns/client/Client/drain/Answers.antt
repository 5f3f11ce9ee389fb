-- what was kept is written, and then what the drain gave
use Rattle.std.proofs.Common.{◌≡◌, ◌∙◌, [], ap, sym, subst, inr}
use Rattle.session_conn.specs.Turns.{port_of}
use Rattle.session_conn.specs.Calls.{Connection, IsDrained}
use Rattle.server_socket.specs.turns.Turns.{Client}
use Rattle.server_socket.proofs.turns.Writing.{all_written}
use Rattle.server_socket.proofs.turns.client.Client.drain.Goals as goal

pub returns-clause-draining : goal.returns-clause-draining
returns-clause-draining g c =
    let same = ap (λ (x : Client). x.conn) c.self.view_is ∙ c.write_out.ensures.conn in
    let made = subst (λ (k : Connection). IsDrained (port_of g.P.Port.steps g.P.Port.posts g.P.Port.holds) c.args.now c.args.most k c.args.port.now c.drain-output.result c.drain-output.new.self c.drain-output.new.port) same c.drain-output.ensures.drained in
    let none : c.write_out.new.self.kept ≡ [] = c.in-None.ensures.out.0.none in
    inr (record {
      output = c.drain-output.result;
      drained = subst (λ (k : Connection). IsDrained (port_of g.P.Port.steps g.P.Port.posts g.P.Port.holds) c.args.now c.args.most c.args.self.now.conn c.args.port.now c.drain-output.result k c.drain-output.new.port) (sym c.tell.ensures.conn) made;
      told = record {
        between = g.S.NonBlockingSink.contents c.write_out.new.writer;
        first = all_written _ _ _ _ c.write_out.ensures.written none;
        rest = c.tell.ensures.written;
      };
      stall_told = c.tell.ensures.told;
    })
