-- the copies so far are the slots so far
use Rattle.std.proofs.Common.{◌≡◌, take}
use Rattle.service_exporter.proofs.slots.copy_slots.Given as goal

abbrev pub invariant-loop-slot : goal.invariant-loop-slot
invariant-loop-slot l = l.copies.items ≡ take l.slot-index l.slots
