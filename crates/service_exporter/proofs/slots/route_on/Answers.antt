-- the route in the slot of the subject's, or none
use Rattle.std.proofs.Common.{◌∙◌, ap, sym}
use Rattle.service_exporter.specs.Routes.{if_lives}
use Rattle.service_exporter.specs.declared.slots.Slot.{Slot}
use Rattle.service_exporter.proofs.Places.{living_at, none_living, none_on, route_at}
use Rattle.service_exporter.proofs.slots.route_on.Goals as goal

pub returns-in-None-clause-route : goal.returns-in-None-clause-route
returns-in-None-clause-route c = sym (none_on c.args.subject.now c.args.slots.now c.in-None.ensures)

pub returns-in-None-clause-living : goal.returns-in-None-clause-living
returns-in-None-clause-living c now = none_living now c.args.subject.now c.args.slots.now c.in-None.ensures

pub returns-in-Some-clause-route : goal.returns-in-Some-clause-route
returns-in-Some-clause-route c =
    c.get.ensures
    ∙ ap (λ (s : Slot). s.route) c.index-slots-place.is
    ∙ sym (route_at c.args.subject.now c.args.slots.now c.in-Some.place c.index-slots-place.result c.in-Some.ensures)

pub returns-in-Some-clause-living : goal.returns-in-Some-clause-living
returns-in-Some-clause-living c now =
    living_at now c.args.subject.now c.args.slots.now c.in-Some.place c.index-slots-place.result c.in-Some.ensures
    ∙ ap (λ (s : Slot). if_lives now s.route) (sym c.index-slots-place.is)
    ∙ ap (if_lives now) (sym c.get.ensures)
