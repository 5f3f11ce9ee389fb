-- the first frame's turn
use Rattle.session_conn.specs.Turns.{port_of}
use Rattle.session_conn.specs.Serving.{spot}
use Rattle.session_conn.proofs.Runs.{went_goes, went_stalls}
use Rattle.session_conn.proofs.serve.take_one.Goals as goal

pub returns-in-Goes-clause-went : goal.returns-in-Goes-clause-went
returns-in-Goes-clause-went g c =
    went_goes (port_of g.P.Port.steps g.P.Port.posts g.P.Port.holds) g.W.Words.draws c.args.context.moment c.args.context.conn c.args.frames.now (spot c.args.port.now c.args.words.now c.args.context.stage c.args.context.word)
    c.in-Some.frame.now c.drop_first.new.self c.in-Goes.after c.args.out.now.items c.take_turn.new.out.items c.take_turn.new.port c.take_turn.new.words
    c.in-Some.ensures c.drop_first.ensures c.requires.open c.in-Goes.ensures.turn

pub returns-in-Stalls-clause-went : goal.returns-in-Stalls-clause-went
returns-in-Stalls-clause-went g c =
    went_stalls (port_of g.P.Port.steps g.P.Port.posts g.P.Port.holds) g.W.Words.draws c.args.context.moment c.args.context.conn c.args.frames.now (spot c.args.port.now c.args.words.now c.args.context.stage c.args.context.word)
    c.in-Some.frame.now c.in-Stalls.stall c.in-Stalls.kept c.args.out.now.items c.take_turn.new.out.items c.take_turn.new.port c.take_turn.new.words
    c.in-Some.ensures c.requires.open c.in-Stalls.ensures.turn
