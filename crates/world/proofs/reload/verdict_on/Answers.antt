-- the verdict is that of the user's lists
use Rattle.std.proofs.Common.{◌∙◌, ap}
use Rattle.world_sessions.specs.deliveries.Sessions.{session_of}
use Rattle.world.specs.Reload.{user_after}
use Rattle.world.proofs.Subscribing.{verdict_is}
use Rattle.world.proofs.reload.verdict_on.Goals as goal

pub returns-in-Some : goal.returns-in-Some
returns-in-Some c =
    let is = c.in-Some.ensures ∙ ap (user_after c.args.ready.now) (c.find.ensures ∙ ap (session_of c.args.sessions.now) c.conn.ensures) in
    verdict_is _ _ c.args.subscription.now _ _ is (c.get.ensures ∙ c.subject.ensures) (rw c.queue.ensures at c.on_subscription.ensures.verdict)
