use Rattle.std.proofs.Common.{◌∙◌, ap, sym}
use Rattle.std.specs.List.{list_any}
use Rattle.std.proofs.lemmas.Bool.{or_parts}
use Rattle.message_changes.proofs.Members.{both}
use Rattle.message_changes.proofs.Told.{front_after, front_same, none_before, unqueued_deliveries}
use Rattle.message_changes.specs.Exact.{has_parts, is_of, is_wide}
use Rattle.message_changes.specs.declared.kind.MessageKind.TheVariants.{Delivery}
use Rattle.message_changes.proofs.changes.add_delivery.Goals as goal

pub returns-then-has_subscription-clause-front : goal.returns-then-has_subscription-clause-front
returns-then-has_subscription-clause-front c = front_same c.args.all.now.items

pub returns-then-has_subscription-clause-delivery : goal.returns-then-has_subscription-clause-delivery
returns-then-has_subscription-clause-delivery c = λ wide none.
    absurd (both (list_any (is_wide c.args.is_gain) c.args.all.now.items) (sym (ap (list_any (is_wide c.args.is_gain)) c.as_slice.ensures.value) ∙ sym c.has_subscription.ensures ∙ c.if-has_subscription.true) wide)

pub returns-then-has_subscription-clause-queue_delivery : goal.returns-then-has_subscription-clause-queue_delivery
returns-then-has_subscription-clause-queue_delivery c = λ wide none unqueued.
    absurd (both (list_any (is_wide c.args.is_gain) c.args.all.now.items) (sym (ap (list_any (is_wide c.args.is_gain)) c.as_slice.ensures.value) ∙ sym c.has_subscription.ensures ∙ c.if-has_subscription.true) wide)

pub returns-then-has_delivery-clause-delivery : goal.returns-then-has_delivery-clause-delivery
returns-then-has_delivery-clause-delivery c = λ wide none. c.in_ok-add_change.ensures.told none

pub returns-then-has_delivery-clause-queue_delivery : goal.returns-then-has_delivery-clause-queue_delivery
returns-then-has_delivery-clause-queue_delivery c = λ wide none unqueued.
    absurd (both (list_any (is_of Delivery c.args.is_gain) c.add_change.new.all.items) (sym (ap (list_any (is_of Delivery c.args.is_gain)) c.as_slice-2.ensures.value) ∙ sym c.has_delivery.ensures ∙ c.if-has_delivery.true) none)

pub returns-then-not-have_queues_of_two-clause-delivery : goal.returns-then-not-have_queues_of_two-clause-delivery
returns-then-not-have_queues_of_two-clause-delivery c = λ wide none. c.in_ok-add_change.ensures.told none

pub returns-then-not-have_queues_of_two-clause-queue_delivery : goal.returns-then-not-have_queues_of_two-clause-queue_delivery
returns-then-not-have_queues_of_two-clause-queue_delivery c = λ wide none unqueued.
    let parts = or_parts (has_parts c.args.old.now.subscribe) (has_parts c.args.new.now.subscribe) (sym c.have_queues_of_two.ensures ∙ c.if-not-have_queues_of_two.true) in
    unqueued_deliveries c.args.old.now c.args.new.now parts.0 parts.1 c.args.is_gain (c.in_ok-add_change.ensures.told none)

pub returns-clause-changes : goal.returns-clause-changes
returns-clause-changes c = λ before. c.in_ok-add_change-2.ensures.changes (c.in_ok-add_change.ensures.changes before)

pub returns-clause-front : goal.returns-clause-front
returns-clause-front c = front_after c.args.all.now.items c.add_change.new.all.items c.add_change-2.new.all.items c.in_ok-add_change.ensures.front c.in_ok-add_change-2.ensures.front

pub returns-clause-delivery : goal.returns-clause-delivery
returns-clause-delivery c = λ wide none.
    c.in_ok-add_change.ensures.told (none_before (is_of Delivery c.args.is_gain) c.add_change.new.all.items c.add_change-2.new.all.items c.in_ok-add_change-2.ensures.front none)

pub returns-clause-queue_delivery : goal.returns-clause-queue_delivery
returns-clause-queue_delivery c = λ wide none unqueued. c.in_ok-add_change-2.ensures.told unqueued
