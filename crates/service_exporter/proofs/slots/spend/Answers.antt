-- the slot of the subject's route, or none
use Rattle.std.proofs.Common.{sym}
use Rattle.stores.proofs.numbered_slots.Places.{rising_set, below_set}
use Rattle.service_exporter.specs.Slots.{slot_number}
use Rattle.service_exporter.proofs.Places.{none_spent, spent_at, left_at}
use Rattle.service_exporter.proofs.slots.spend.Goals as goal

pub returns-in-None-clause-spent : goal.returns-in-None-clause-spent
returns-in-None-clause-spent c = sym (none_spent c.args.subject.now c.args.slots.now c.in-None.ensures)

pub returns-in-Some-clause-spent : goal.returns-in-Some-clause-spent
returns-in-Some-clause-spent c =
    spent_at c.args.subject.now c.args.slots.now c.in-Some.place c.take_if_single.new.self c.index-slots-place.result c.in-Some.ensures c.take_if_single.ensures.number c.take_if_single.ensures.route

pub returns-in-Some-clause-rising : goal.returns-in-Some-clause-rising
returns-in-Some-clause-rising c = rising_set slot_number c.args.slots.now c.in-Some.place c.take_if_single.new.self c.index-slots-place.result c.requires.rising c.take_if_single.ensures.number

pub returns-in-Some-clause-below : goal.returns-in-Some-clause-below
returns-in-Some-clause-below c = λ n below. below_set slot_number n c.args.slots.now c.in-Some.place c.take_if_single.new.self c.index-slots-place.result below c.take_if_single.ensures.number

pub returns-in-Some-clause-left : goal.returns-in-Some-clause-left
returns-in-Some-clause-left c = λ t.
    left_at t c.args.slots.now c.in-Some.place c.take_if_single.new.self c.index-slots-place.result c.take_if_single.result c.in-Some.ensures.within c.take_if_single.ensures.route c.take_if_single.ensures.taken
