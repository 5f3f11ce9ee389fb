-- the connections so far have their room noted, and beside their deliveries stands what is to be noted
use Rattle.std.proofs.Common.{◌≡◌, ◌++◌, ◌<◌, ℕ, get_or, map, take, drop}
use Rattle.events.specs.declared.answer.Addressed.{Addressed}
use Rattle.world_sessions.specs.deliveries.Planned.{room_at, rooms_of}
use Rattle.world_sessions.specs.deliveries.Replying.{noted_for}
use Rattle.world_sessions.proofs.deliveries.plan.note_rooms.Given as goal

abbrev pub invariant-loop-next : goal.invariant-loop-next
invariant-loop-next l =
    ((k : ℕ) (d : Addressed) → k < l.next-index → room_at l.by.list.now l.rooms (get_or l.initial.all k d).conn ≡ rooms_of l.by.list.now (get_or l.initial.all k d).conn)
    × (take l.next-index l.all ++ map (noted_for l.by.list.now) (drop l.next-index l.all) ≡ map (noted_for l.by.list.now) l.initial.all)
    × (drop l.next-index l.all ≡ drop l.next-index l.initial.all)
