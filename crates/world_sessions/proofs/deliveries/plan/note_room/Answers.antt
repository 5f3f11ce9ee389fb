use Rattle.std.proofs.Common.{◌≡◌, ◌∙◌, sym, ap}
use Rattle.world_sessions.specs.deliveries.Sessions.{session_of}
use Rattle.world_sessions.specs.deliveries.Delivered.{room_in}
use Rattle.world_sessions.specs.deliveries.Planned.{room_at, with_room}
use Rattle.world_sessions.proofs.deliveries.Places.{IsPlace-from}
use Rattle.world_sessions.proofs.deliveries.Plans.{room_nowhere, room_written, same_room}
use Rattle.world_sessions.proofs.deliveries.plan.note_room.Goals as goal

pub returns-in-None-clause-room : goal.returns-in-None-clause-room
returns-in-None-clause-room c =
    let none = room_nowhere c.args.conn c.args.by.list.now c.args.rooms.now (sym c.in-None.ensures) in
    same_room c.args.conn (room_in (session_of c.args.by.list.now c.args.conn)) (room_at c.args.by.list.now c.args.rooms.now) (none.0 ∙ sym (ap room_in none.1))

pub returns-in-Some-clause-room : goal.returns-in-Some-clause-room
returns-in-Some-clause-room c other =
    let z = c.index-by-place.result in
    let at = IsPlace-from c.args.conn c.args.by.list.now c.in-Some.place (sym c.in-Some.ensures) in
    let is : c.room-room.result ≡ room_in (session_of c.args.by.list.now c.args.conn) =
    c.room-room.ensures ∙ sym (ap room_in (at.here z)) in
    room_written c.args.conn c.room-room.result c.args.by.list.now c.args.rooms.now c.in-Some.place c.requires.within (sym c.in-Some.ensures) other
    ∙ ap (λ n. with_room c.args.conn n (room_at c.args.by.list.now c.args.rooms.now) other) is

pub returns-in-None-clause-session : goal.returns-in-None-clause-session
returns-in-None-clause-session c = sym (room_nowhere c.args.conn c.args.by.list.now c.args.rooms.now (sym c.in-None.ensures)).1

pub returns-in-Some-clause-session : goal.returns-in-Some-clause-session
returns-in-Some-clause-session c =
    let z = c.index-by-place.result in
    let at = IsPlace-from c.args.conn c.args.by.list.now c.in-Some.place (sym c.in-Some.ensures) in
    sym (at.here z)
