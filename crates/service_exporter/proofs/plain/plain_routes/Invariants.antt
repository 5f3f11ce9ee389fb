-- the routes so far, and those in the slots that are left
use Rattle.std.proofs.Common.{◌≡◌, ◌++◌, drop}
use Rattle.service_exporter.specs.Routes.{living}
use Rattle.service_exporter.specs.Slots.{standing_in}
use Rattle.service_exporter.proofs.plain.plain_routes.Given as goal

abbrev pub invariant-loop-slot : goal.invariant-loop-slot
invariant-loop-slot l = l.routes.items ++ living l.now (standing_in (drop l.slot-index l.slots)) ≡ living l.now (standing_in l.slots)
