-- one more session has its user
use Rattle.std.proofs.Common.{◌∙◌, arith}
use Rattle.world_sessions.proofs.Remaining.{with_users_more}
use Rattle.world_sessions.proofs.renewal.give_users.Goals as goal

pub loop-session-preserved : goal.loop-session-preserved
loop-session-preserved c =
    with_users_more c.args.now c.loop-session.list c.loop-session.users.items c.pop_front.new.self.items c.loop-session.session-index c.give_user.new.session c.session-item.result c.pop_front.result
    (let h = c.loop-session-test.true in omega (arith, c.loop-session.auto.list)) c.give_user.ensures c.pop_front.ensures.items c.pop_front.ensures.rest
    ∙ c.loop-session.invariant
