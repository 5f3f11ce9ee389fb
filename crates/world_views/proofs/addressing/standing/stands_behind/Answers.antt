-- without a limit a subscription stands
use Rattle.std.proofs.Common.{not, ap, sym}
use Rattle.world_sessions.specs.deliveries.Sessions.{session_of}
use Rattle.world_sessions.specs.deliveries.Delivered.{room_in}
use Rattle.world_views.specs.addressing.Standing.{times_entering}
use Rattle.world_views.proofs.addressing.Left.{never_ends}
use Rattle.world_views.proofs.addressing.standing.stands_behind.Goals as goal

pub returns-in-None : goal.returns-in-None
returns-in-None c =
    let s = c.args.subscription.now in
    sym (ap not (never_ends (times_entering s.conn s.id (room_in (session_of c.args.sessions.now s.conn)) c.args.before.now) s (sym c.in-None.ensures)))
