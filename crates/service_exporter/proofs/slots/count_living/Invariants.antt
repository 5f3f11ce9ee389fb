-- those that live so far
use Rattle.std.proofs.Common.{◌≡◌, ◌≤◌, length, take}
use Rattle.service_exporter.specs.Routes.{living}
use Rattle.service_exporter.specs.Slots.{standing_in}
use Rattle.service_exporter.proofs.slots.count_living.Given as goal

abbrev pub invariant-loop-slot : goal.invariant-loop-slot
invariant-loop-slot l = record {
  count : l.count ≡ length (living l.now (standing_in (take l.slot-index l.slots)));
  within : l.count ≤ l.slot-index;
  least : l.count ≤ length (living l.until (standing_in (take l.slot-index l.slots)));
}
