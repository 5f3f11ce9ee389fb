-- what is planned by the rooms that are noted is what the deliveries meet
use Rattle.std.proofs.Common.{◌≡◌, ◌∙◌, List, sym, subst}
use Rattle.events.specs.declared.answer.Addressed.{Addressed}
use Rattle.world_sessions.specs.deliveries.Delivered.{delivered}
use Rattle.world_sessions.specs.deliveries.Planned.{room_at, planned}
use Rattle.world_sessions.proofs.deliveries.Plans.{plan_noted}
use Rattle.world_sessions.proofs.deliveries.plan.plan_by_rooms.Goals as goal

pub returns-clause-items : goal.returns-clause-items
returns-clause-items c now =
    let zs = c.args.by.list.now in
    let rooms = c.note_rooms.new.rooms in
    c.in_ok-items.ensures
    ∙ subst (λ (all : List Addressed). planned all (room_at zs rooms) ≡ (delivered now all zs).1) (sym c.in_ok-note_rooms.ensures.noted)
    (plan_noted now c.args.all.now zs rooms c.in_ok-note_rooms.ensures.rooms)
