-- numbers have 64 bits, and a route that ended is counted off
use Rattle.std.proofs.Common.{◌+◌, List, rules, sym, subst, arith}
use Rattle.service_exporter.specs.Slots.{slot_number, standing_in, AreBelow}
use Rattle.service_exporter.specs.Tally.{IsTallied}
use Rattle.service_exporter.specs.declared.slots.Slot.{Slot}
use Rattle.stores.proofs.numbered_slots.Places.{below_more}
use Rattle.service_exporter.proofs.Places.{written_back}
use Rattle.service_exporter.proofs.exporter.Exporter.spend.Goals as goal

pub spend-requires-clause-small : goal.spend-requires-clause-small
spend-requires-clause-small c =
    subst (λ (l : List Slot). AreBelow 18446744073709551616 l) (sym c.as_mut_slice.ensures.value)
    (below_more slot_number (c.self.inside.last + 1) 18446744073709551616 c.self.inside.slots.items (let h = c.self.invariant.2 in omega (arith, h)) c.self.invariant.1)

pub invariant_of-self-in-Some : goal.invariant_of-self-in-Some
invariant_of-self-in-Some c =
    let items = c.self.inside.slots.items in
    let new = c.spend.new.slots in
    let written = written_back c.self.inside.slots.len new items (search rules) (search rules) in
    let tallied : IsTallied c.self.inside.tally (standing_in c.as_mut_slice.result.now) =
    subst (λ (l : List Slot). IsTallied c.self.inside.tally (standing_in l)) (sym c.as_mut_slice.ensures.value) c.self.invariant.3
    in (
      search rules,
      search rules,
      search rules,
      subst (λ (l : List Slot). IsTallied c.remove.new.self (standing_in l)) (sym written) (c.remove.ensures (standing_in c.as_mut_slice.result.now) (standing_in new) c.in-Some.ensures.left tallied),
    )
