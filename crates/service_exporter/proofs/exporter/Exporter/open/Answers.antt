-- one more slot, whose number is above all others
use Rattle.std.proofs.Common.{◌≡◌, ◌∙◌, ◌+◌, List, ap, sym, subst, arith, Some, ◌∷◌, []}
use Rattle.service_exporter.specs.Routes.{Exporter, Numbered, WithRoom, with_route}
use Rattle.service_exporter.specs.Slots.{slot_number, held, standing_in, AreRising, AreBelow}
use Rattle.service_exporter.specs.Tally.{IsTallied}
use Rattle.service_exporter.specs.declared.slots.Slot.{Slot}
use Rattle.stores.proofs.numbered_slots.Places.{rising_added, below_added, below_more, entries-append}
use Rattle.service_exporter.proofs.exporter.Exporter.open.Goals as goal

pub invariant_of-self : goal.invariant_of-self
invariant_of-self c =
    let slots = c.self.inside.slots.items in
    let n = c.self.inside.last + 1 in
    let new : Slot = record { number = n; route = Some c.args.route } in
    let same : c.self.inside.last ≡ c.args.self.now.exporter.last = ap (λ (w : WithRoom). w.exporter.last) c.self.view_is in
    let within = c.requires.within in (
      subst AreRising (sym c.push_reserved.ensures.items) (rising_added slot_number slots new c.self.invariant.0 c.self.invariant.1),
      subst (λ (l : List Slot). AreBelow (n + 1) l) (sym c.push_reserved.ensures.items) (below_added slot_number (n + 1) slots new (below_more slot_number n (n + 1) slots (omega arith) c.self.invariant.1) (omega arith)),
      omega (arith, same, within),
      subst (λ (rs : List Numbered). IsTallied c.add.new.self rs) (sym (ap standing_in c.push_reserved.ensures.items ∙ entries-append slot_number held slots (new ∷ []))) (c.add.ensures (standing_in slots) n c.self.invariant.3),
    )

pub returns-clause-exporter : goal.returns-clause-exporter
returns-clause-exporter c =
    let slots = c.self.inside.slots.items in
    let n = c.self.inside.last + 1 in
    let new : Slot = record { number = n; route = Some c.args.route } in
    let made : List Numbered → Exporter = λ rs. record { last = n; routes = rs } in
    ap made (ap standing_in c.push_reserved.ensures.items ∙ entries-append slot_number held slots (new ∷ []))
    ∙ ap (λ (w : WithRoom). with_route c.args.route w.exporter) c.self.view_is
