-- the piece is read, and the turns are those of all frames
use Rattle.std.proofs.Common.{◌∙◌, List, refl, sym, subst}
use Rattle.wire_read.specs.declared.frame.Frame.{Frame}
use Rattle.session_conn.specs.contracts.conn.Conn.{the_view}
use Rattle.session_conn.specs.declared.output.Output.{Output}
use Rattle.session_conn.specs.Turns.{port_of}
use Rattle.session_conn.specs.Serving.{spot, served, Serves}
use Rattle.session_conn.specs.Calls.{Connection, IsServed}
use Rattle.session_conn.proofs.Reading.{read_open}
use Rattle.session_conn.proofs.conn.Conn.on_bytes.Goals as goal

pub returns-in-Ok-clause-served : goal.returns-in-Ok-clause-served
returns-in-Ok-clause-served g c =
    let old = the_view c.self.inside in
    let new = the_view (record c.self.inside { reader = c.take_piece.new.reader; stage = c.serve-served.result.stage; frames = c.serve-served.new.frames; word = c.serve-served.result.word; stall = c.serve-served.result.stall }) in
    let output : Output = record { bytes = c.serve-served.result.bytes; close = c.is_closed-in-Ok.result; stall = c.serve-served.result.stall } in
    let before = spot c.args.port.now c.args.words.now c.self.inside.stage c.self.inside.word in
    let after = served c.serve-served.result.bytes.items c.serve-served.new.frames c.serve-served.result.stall
    (spot c.serve-served.new.port c.serve-served.new.words c.serve-served.result.stage c.serve-served.result.word) in
    let turns = subst (λ (fs : List Frame). Serves (port_of g.P.Port.steps g.P.Port.posts g.P.Port.holds) g.W.Words.draws c.args.now c.self.inside.conn fs before after) c.in-Ok.ensures.frames c.serve-served.ensures.served in
    subst (λ (was : Connection). IsServed (port_of g.P.Port.steps g.P.Port.posts g.P.Port.holds) g.W.Words.draws c.args.now c.args.piece.now was c.args.port.now c.args.words.now output new c.serve-served.new.port c.serve-served.new.words)
    c.self.view_is
    (read_open (port_of g.P.Port.steps g.P.Port.posts g.P.Port.holds) g.W.Words.draws c.args.now c.args.piece.now old c.args.port.now c.args.words.now output new c.serve-served.new.port c.serve-served.new.words
    (sym c.is_closed.ensures ∙ c.if-is_closed.false)
    (record {
      turns = turns;
      reader = c.in-Ok.ensures.reader;
      close = c.is_closed-in-Ok.ensures;
      stall = refl;
      conn = refl;
      owed = refl;
      missed = refl;
    }))
