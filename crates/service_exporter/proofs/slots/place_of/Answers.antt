-- what a binary search says of slots whose numbers rise
use Rattle.std.proofs.Common.{rules, slice_index_or}
use Rattle.std.proofs.lemmas.List.Sorted.{answers_always}
use Rattle.service_exporter.specs.declared.slots.Slot.{Slot}
use Rattle.stores.proofs.numbered_slots.Places.{cmp_equal, searchable, not_there}
use Rattle.service_exporter.specs.Slots.{slot_number}
use Rattle.service_exporter.proofs.slots.place_of.Goals as goal

pub returns-in-Err : goal.returns-in-Err
returns-in-Err c = not_there slot_number c.args.number c.args.slots.now _
    (c.in-Err.ensures.position (λ (s : Slot). s.number) (answers_always _ _ _ (λ f a r f' called. search rules)) (searchable slot_number c.args.number c.args.slots.now c.requires))

pub returns-in-Ok : goal.returns-in-Ok
returns-in-Ok c = (
  c.in-Ok.ensures.bound,
  λ d. cmp_equal (slice_index_or c.args.slots.now c.in-Ok.place d).number c.args.number (c.in-Ok.ensures.position (λ (s : Slot). s.number) (answers_always _ _ _ (λ f a r f' called. search rules)) d),
)
