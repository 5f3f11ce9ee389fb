-- each slot has its number, and its route on its row
use Rattle.std.proofs.Common.{◌∙◌, ap, refl, sym, subst}
use Rattle.stores.proofs.numbered_slots.Places.{rising-map, below-map}
use Rattle.service_exporter.specs.Slots.{slot_number, kept_slot, standing_in, AreRising, AreBelow}
use Rattle.service_exporter.proofs.Places.{standing-on_rows}
use Rattle.service_exporter.proofs.slots.keep_rows.Goals as goal

pub returns-clause-kept : goal.returns-clause-kept
returns-clause-kept g c = ap standing_in c.keep_each.ensures ∙ standing-on_rows (g.S.ServiceRows.renewed c.args.rows.now) c.args.slots.now

pub returns-clause-rising : goal.returns-clause-rising
returns-clause-rising g c = subst AreRising (sym c.keep_each.ensures) (rising-map slot_number (kept_slot (g.S.ServiceRows.renewed c.args.rows.now)) (λ s. refl) c.args.slots.now c.requires.rising)

pub returns-clause-below : goal.returns-clause-below
returns-clause-below g c = λ n below. subst (AreBelow n) (sym c.keep_each.ensures) (below-map slot_number (kept_slot (g.S.ServiceRows.renewed c.args.rows.now)) (λ s. refl) n c.args.slots.now below)
