-- numbers have 64 bits
use Rattle.std.proofs.Common.{◌+◌, List, sym, subst, arith}
use Rattle.service_exporter.specs.Slots.{slot_number, AreBelow}
use Rattle.service_exporter.specs.declared.slots.Slot.{Slot}
use Rattle.stores.proofs.numbered_slots.Places.{below_more}
use Rattle.service_exporter.proofs.exporter.Exporter.find.Goals as goal

pub route_on-route-requires-clause-small : goal.route_on-route-requires-clause-small
route_on-route-requires-clause-small c =
    subst (λ (l : List Slot). AreBelow 18446744073709551616 l) (sym c.as_slice.ensures.value)
    (below_more slot_number (c.self.inside.last + 1) 18446744073709551616 c.self.inside.slots.items (let h = c.self.invariant.2 in omega (arith, h)) c.self.invariant.1)
