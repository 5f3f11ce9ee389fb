use Rattle.std.proofs.Common.{◌∙◌, ◌-◌, nat_lt, sym, ap}
use Rattle.world_sessions.specs.deliveries.Planned.{room_at, with_room}
use Rattle.world_sessions.proofs.deliveries.Plans.{room_nowhere, room_written, room_here, same_room}
use Rattle.world_sessions.proofs.deliveries.plan.take_room.Goals as goal

pub returns-in-None-clause-had : goal.returns-in-None-clause-had
returns-in-None-clause-had c =
    let none = room_nowhere c.args.conn c.args.by.list.now c.args.rooms.now (sym c.in-None.ensures) in
    sym (ap (λ n. nat_lt 0 n) none.0)

pub returns-in-None-clause-after : goal.returns-in-None-clause-after
returns-in-None-clause-after c =
    let none = room_nowhere c.args.conn c.args.by.list.now c.args.rooms.now (sym c.in-None.ensures) in
    same_room c.args.conn _ (room_at c.args.by.list.now c.args.rooms.now) (none.0 ∙ sym (ap (λ n. n - 1) none.0))

pub returns-in-Some-clause-had : goal.returns-in-Some-clause-had
returns-in-Some-clause-had c =
    sym (ap (λ n. nat_lt 0 n) (room_here c.args.conn c.args.by.list.now c.args.rooms.now c.in-Some.place c.requires.within (sym c.in-Some.ensures)))

pub returns-in-Some-clause-after : goal.returns-in-Some-clause-after
returns-in-Some-clause-after c other =
    room_written c.args.conn c.saturating_sub.result c.args.by.list.now c.args.rooms.now c.in-Some.place c.requires.within (sym c.in-Some.ensures) other
    ∙ ap (λ n. with_room c.args.conn n (room_at c.args.by.list.now c.args.rooms.now) other)
    (c.saturating_sub.ensures ∙ sym (ap (λ n. n - 1) (room_here c.args.conn c.args.by.list.now c.args.rooms.now c.in-Some.place c.requires.within (sym c.in-Some.ensures))))
