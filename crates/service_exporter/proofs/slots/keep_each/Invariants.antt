-- the slots so far have their rows, and those that are left get theirs
use Rattle.std.proofs.Common.{◌≡◌, ◌++◌, take, drop, map}
use Rattle.service_exporter.specs.Slots.{kept_slot}
use Rattle.service_exporter.proofs.slots.keep_each.Given as goal

abbrev pub invariant-loop-slot : goal.invariant-loop-slot
invariant-loop-slot g l =
    take l.slot-index l.slots ++ map (kept_slot (g.S.ServiceRows.renewed l.rows)) (drop l.slot-index l.slots) ≡ map (kept_slot (g.S.ServiceRows.renewed l.rows)) l.initial.slots
