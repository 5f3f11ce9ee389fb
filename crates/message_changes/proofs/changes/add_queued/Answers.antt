use Rattle.std.proofs.Common.{◌∙◌, sym}
use Rattle.std.proofs.lemmas.Bool.{or_parts}
use Rattle.message_changes.proofs.Told.{front_same, unqueued_subscriptions}
use Rattle.message_changes.specs.Exact.{has_parts}
use Rattle.message_changes.proofs.changes.add_queued.Goals as goal

pub returns-then-not-have_queues_of_two-clause-front : goal.returns-then-not-have_queues_of_two-clause-front
returns-then-not-have_queues_of_two-clause-front c = front_same c.args.all.now.items

pub returns-then-not-have_queues_of_two-clause-told : goal.returns-then-not-have_queues_of_two-clause-told
returns-then-not-have_queues_of_two-clause-told c = λ is_gain plain none.
    let parts = or_parts (has_parts c.args.old.now.subscribe) (has_parts c.args.new.now.subscribe) (sym c.have_queues_of_two.ensures ∙ c.if-not-have_queues_of_two.true) in
    unqueued_subscriptions c.args.old.now c.args.new.now parts.0 parts.1 is_gain plain

pub returns-clause-told : goal.returns-clause-told
returns-clause-told c = λ is_gain plain none. c.in_ok-add_both.ensures.told is_gain none
