-- what is told without the hub is short, and there is room for it; and a message is published
use Rattle.std.proofs.Common.{rules, ◌∙◌, ◌≤◌, ℕ, List, sym, subst}
use Rattle.session_conn.specs.Turns.{port_of, IsFrameTurn, IsFrameTurned}
use Rattle.session_plan.specs.Replies.{room_of}
use Rattle.session_plan.proofs.Short.{IsShort, plan_short, room_enough}
use Rattle.session_conn.proofs.turn.take_turn.Goals as goal

pub tell-requires : goal.tell-requires
tell-requires g c =
    let short = subst IsShort (sym c.in-Ok.ensures.plan ∙ c.in-Tells.is) (plan_short c.args.context.conn c.args.context.stage c.args.frame.now) in
    let enough : 64 ≤ room_of c.args.frame.now = room_enough c.args.frame.now in
    search rules

pub returns-in-Publishes-clause-turn : goal.returns-in-Publishes-clause-turn
returns-in-Publishes-clause-turn g c =
    subst (λ (before : List ℕ). IsFrameTurned (λ turned. IsFrameTurn (port_of g.P.Port.steps g.P.Port.posts g.P.Port.holds) g.W.Words.draws c.args.context.moment c.args.context.conn c.args.context.stage c.args.context.word c.args.frame.now c.args.port.now c.args.words.now turned c.publish.new.port c.publish.new.words) c.publish.result before c.publish.new.out.items)
    c.make_room.ensures.same c.publish.ensures.turn
