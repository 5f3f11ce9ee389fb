-- by whatever name its pattern goes
use Rattle.std.proofs.Common.{◌∙◌}
use Rattle.world_sessions.specs.deliveries.Sessions.{session_of}
use Rattle.world.specs.Reload.{user_after}
use Rattle.world.proofs.Reasons.{any_reason}
use Rattle.world.proofs.reload.prove_reason.Goals as goal

pub returns : goal.returns
returns c = λ doc zs.
    let sub = c.args.subscription.now in
    any_reason _ sub.subject sub.queue (user_after doc (session_of zs sub.conn)) (c.get.ensures ∙ c.subject.ensures) c.each_has_reason.ensures
