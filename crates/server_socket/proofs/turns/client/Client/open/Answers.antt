-- what was kept is written, and then INFO
use Rattle.std.proofs.Common.{◌≡◌, ◌∙◌, [], ap, subst, inr}
use Rattle.session_conn.specs.Calls.{Connection, IsOpened}
use Rattle.server_socket.specs.turns.Turns.{Client}
use Rattle.server_socket.proofs.turns.Writing.{all_written}
use Rattle.server_socket.proofs.turns.client.Client.open.Goals as goal

pub returns-clause-opening : goal.returns-clause-opening
returns-clause-opening g c =
    let same = ap (λ (x : Client). x.conn) c.self.view_is ∙ c.write_out.ensures.conn in
    let none : c.write_out.new.self.kept ≡ [] = c.in-None.ensures.out.0.none in
    inr (record {
      output = c.opened-output.result;
      opened = subst (λ (k : Connection). IsOpened k.conn c.opened-output.result) same c.opened-output.ensures;
      conn = c.tell.ensures.conn ∙ c.write_out.ensures.conn;
      told = record {
        between = g.S.NonBlockingSink.contents c.write_out.new.writer;
        first = all_written _ _ _ _ c.write_out.ensures.written none;
        rest = c.tell.ensures.written;
      };
      stall_told = c.tell.ensures.told;
    })
