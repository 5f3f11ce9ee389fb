-- what was kept is written, and then what the piece has led to
use Rattle.std.proofs.Common.{◌≡◌, ◌∙◌, ℕ, [], take, ap, sym, subst, inr, rules}
use Rattle.std.specs.Prelude.{is_some}
use Rattle.session_conn.specs.Turns.{port_of}
use Rattle.session_conn.specs.Calls.{Connection, IsServed}
use Rattle.server_socket.specs.declared.turns.client.Piece.TheVariants as piece
use Rattle.server_socket.specs.turns.Turns.{Client, piece_length}
use Rattle.server_socket.proofs.turns.Writing.{all_written, piece_some, stopped_some}
use Rattle.server_socket.proofs.turns.client.Client.serve.Goals as goal

pub returns-clause-serving : goal.returns-clause-serving
returns-clause-serving g c =
    let same = ap (λ (x : Client). x.conn) c.self.view_is ∙ c.write_out.ensures.conn in
    let waits : c.is_some-frames_wait.result ≡ is_some c.args.self.now.conn.stall = c.is_some-frames_wait.ensures ∙ ap is_some (c.stall.ensures ∙ ap (λ (k : Connection). k.stall) same) in
    let none : c.write_out.new.self.kept ≡ [] = c.in-None.ensures.out.0.none in
    let bytes = take c.in-Read.count c.next_piece.new.buf in
    let made = subst (λ (k : Connection). IsServed (port_of g.P.Port.steps g.P.Port.posts g.P.Port.holds) g.W.Words.draws c.args.context.moment bytes k c.args.port.now c.args.words.now c.on_bytes-output.result c.on_bytes-output.new.self c.on_bytes-output.new.port c.on_bytes-output.new.words)
    same c.on_bytes-output.ensures.served in
    inr (record {
      piece = bytes;
      output = c.on_bytes-output.result;
      within = search rules;
      read = c.in-Read.ensures.read;
      some = λ unstopped. piece_some c.in-Read.count c.next_piece.new.buf c.in-Read.ensures.within
          (λ empty. c.in-Read.ensures.some (waits ∙ ap is_some unstopped) (ap piece.Read empty));
      none = λ stopped. ap (λ (n : ℕ). take n c.next_piece.new.buf) (ap piece_length (c.in-Read.ensures.none (waits ∙ stopped_some c.args.self.now.conn.stall stopped)));
      served = subst (λ (k : Connection). IsServed (port_of g.P.Port.steps g.P.Port.posts g.P.Port.holds) g.W.Words.draws c.args.context.moment bytes c.args.self.now.conn c.args.port.now c.args.words.now c.on_bytes-output.result k c.on_bytes-output.new.port c.on_bytes-output.new.words)
          (sym c.tell.ensures.conn) made;
      told = record {
        between = g.S.NonBlockingSink.contents c.write_out.new.writer;
        first = all_written _ _ _ _ c.write_out.ensures.written none;
        rest = c.tell.ensures.written;
      };
      stall_told = c.tell.ensures.told;
    })
