-- nothing is put down, and the room is that of the session at the place
use Rattle.std.proofs.Common.{sym, ap, ◌∙◌}
use Rattle.world_sessions.specs.declared.deliveries.session.Session.{Session}
use Rattle.world_sessions.specs.deliveries.Delivered.{room_in}
use Rattle.std.proofs.Common.{Some}
use Rattle.world_sessions.proofs.deliveries.Plans.{roomy_here, none_from}
use Rattle.world_sessions.proofs.deliveries.plan.has_room_after.Goals as goal

pub returns-in-Some : goal.returns-in-Some
returns-in-Some c more = (
  none_from c.args.next.now.noted (sym c.is_some.ensures ∙ c.if-is_some.false),
  roomy_here c.args.before c.args.next.now.conn c.room.result c.in-Some.place c.args.by.list.now c.index-by-place.result (sym c.in-Some.ensures) c.index-by-place.is (c.room.ensures ∙ sym (ap (λ (z : Session). room_in (Some z)) c.index-by-place.is)) more,
)
