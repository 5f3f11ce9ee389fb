-- what is retained are the slots in which a route stands
use Rattle.std.proofs.Common.{rules, true}
use Rattle.std.proofs.lemmas.Fn.{filter_same}
use Rattle.stores.proofs.numbered_slots.Places.{entries_compacted, rising_left, below_left}
use Rattle.service_exporter.specs.Slots.{slot_number, held}
use Rattle.service_exporter.proofs.slots.compact.Goals as goal

pub returns-clause-same : goal.returns-clause-same
returns-clause-same c = entries_compacted slot_number held c.args.slots.now.items c.retain.new.self.items
    (filter_same _ _ _ (λ x b f' called. search rules) _ _ c.retain.ensures.filtered)

pub returns-clause-rising : goal.returns-clause-rising
returns-clause-rising c = rising_left slot_number held (λ r. true) c.args.slots.now.items c.retain.new.self.items
    (filter_same _ _ _ (λ x b f' called. search rules) _ _ c.retain.ensures.filtered) c.requires.rising

pub returns-clause-below : goal.returns-clause-below
returns-clause-below c = below_left slot_number held (λ r. true) c.args.slots.now.items c.retain.new.self.items
    (filter_same _ _ _ (λ x b f' called. search rules) _ _ c.retain.ensures.filtered)
