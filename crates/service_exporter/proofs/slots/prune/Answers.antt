-- what is retained are the slots of the routes that live
use Rattle.std.proofs.Common.{rules}
use Rattle.std.proofs.lemmas.Fn.{filter_same}
use Rattle.stores.proofs.numbered_slots.Places.{entries_left, rising_left, below_left}
use Rattle.service_exporter.specs.Routes.{lives}
use Rattle.service_exporter.specs.Slots.{slot_number, held}
use Rattle.service_exporter.proofs.slots.prune.Goals as goal

pub returns-clause-living : goal.returns-clause-living
returns-clause-living c = entries_left slot_number held (lives c.args.now) c.args.slots.now.items c.retain.new.self.items
    (filter_same _ _ _ (λ x b f' called. search rules) _ _ c.retain.ensures.filtered)

pub returns-clause-rising : goal.returns-clause-rising
returns-clause-rising c = rising_left slot_number held (lives c.args.now) c.args.slots.now.items c.retain.new.self.items
    (filter_same _ _ _ (λ x b f' called. search rules) _ _ c.retain.ensures.filtered) c.requires.rising

pub returns-clause-below : goal.returns-clause-below
returns-clause-below c = below_left slot_number held (lives c.args.now) c.args.slots.now.items c.retain.new.self.items
    (filter_same _ _ _ (λ x b f' called. search rules) _ _ c.retain.ensures.filtered)
