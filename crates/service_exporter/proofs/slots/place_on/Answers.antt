-- no slot but the one with the number that the subject writes can have its route
use Rattle.std.proofs.Common.{◌≡◌, ◌∙◌, sym, subst, None, Some, true, false}
use Rattle.service_exporter.specs.Slots.{is_in}
use Rattle.service_exporter.specs.declared.slots.Slot.{Slot}
use Rattle.service_exporter.proofs.Places.{tells_number, nowhere_unread, nowhere_absent, nowhere_other, placed_on}
use Rattle.service_exporter.proofs.slots.place_on.Goals as goal

pub returns-in-None : goal.returns-in-None
returns-in-None c = nowhere_unread c.args.subject.now c.args.slots.now (tells_number c.args.subject.now c.args.slots.now None c.requires.small c.in-None.ensures)

pub returns-in-None-place_of : goal.returns-in-None-place_of
returns-in-None-place_of c =
    nowhere_absent c.args.subject.now c.args.slots.now c.in-Some.number (tells_number c.args.subject.now c.args.slots.now (Some c.in-Some.number) c.requires.small c.in-Some.ensures) c.in-None-place_of.ensures

pub returns-then-is_on : goal.returns-then-is_on
returns-then-is_on c =
    placed_on c.args.subject.now c.args.slots.now c.in-Some.number c.in-Some-place_of.place c.index-slots-place.result c.requires.rising
    (tells_number c.args.subject.now c.args.slots.now (Some c.in-Some.number) c.requires.small c.in-Some.ensures) c.in-Some-place_of.ensures
    (subst (λ (s : Slot). is_in c.args.subject.now s ≡ true) c.index-slots-place.is (sym c.is_on.ensures ∙ c.if-is_on.true))

pub returns-else-is_on : goal.returns-else-is_on
returns-else-is_on c =
    nowhere_other c.args.subject.now c.args.slots.now c.in-Some.number c.in-Some-place_of.place c.index-slots-place.result c.requires.rising
    (tells_number c.args.subject.now c.args.slots.now (Some c.in-Some.number) c.requires.small c.in-Some.ensures) c.in-Some-place_of.ensures
    (subst (λ (s : Slot). is_in c.args.subject.now s ≡ false) c.index-slots-place.is (sym c.is_on.ensures ∙ c.if-is_on.false))
