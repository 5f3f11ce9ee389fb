-- a route that doesn't live isn't among those that do
use Rattle.stores.proofs.numbered_slots.Places.{rising_set, below_set}
use Rattle.service_exporter.specs.Slots.{slot_number}
use Rattle.service_exporter.proofs.Places.{dropped_at}
use Rattle.service_exporter.proofs.slots.drop_dead_at.Goals as goal

pub returns-clause-living : goal.returns-clause-living
returns-clause-living c = dropped_at c.args.now c.args.slots.now c.args.place c.end_if_dead.new.self c.index-slots-place.result c.requires.within c.end_if_dead.ensures.number c.end_if_dead.ensures.route

pub returns-clause-rising : goal.returns-clause-rising
returns-clause-rising c = rising_set slot_number c.args.slots.now c.args.place c.end_if_dead.new.self c.index-slots-place.result c.requires.rising c.end_if_dead.ensures.number

pub returns-clause-below : goal.returns-clause-below
returns-clause-below c = λ n below. below_set slot_number n c.args.slots.now c.args.place c.end_if_dead.new.self c.index-slots-place.result below c.end_if_dead.ensures.number
