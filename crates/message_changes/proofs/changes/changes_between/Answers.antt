use Rattle.std.proofs.Common.{sym, subst}
use Rattle.std.specs.Prelude.{All}
use Rattle.std.proofs.lemmas.List.Elements.{All-nil}
use Rattle.message_changes.proofs.Told.{all_told, judged_alike}
use Rattle.message_changes.specs.Judging.{IsChange}
use Rattle.message_changes.proofs.changes.changes_between.Goals as goal

pub returns-clause-changes : goal.returns-clause-changes
returns-clause-changes c =
    let is = IsChange c.args.old.now c.args.new.now in
    let none = subst (All is) (sym c.new-all.ensures.items) (All-nil is) in
    c.in_ok-add_delivery-2.ensures.changes (c.in_ok-add_delivery.ensures.changes (c.in_ok-add_queued.ensures.changes (c.in_ok-add_both-2.ensures.changes (c.in_ok-add_both.ensures.changes none))))

pub returns-clause-told : goal.returns-clause-told
returns-clause-told c =
    all_told c.args.old.now c.args.new.now c.add_both.new.all.items c.add_both-2.new.all.items c.add_queued.new.all.items c.add_delivery.new.all.items c.add_delivery-2.new.all.items
    c.in_ok-add_both-2.ensures.front c.in_ok-add_queued.ensures.front c.in_ok-add_delivery.ensures.front c.in_ok-add_delivery-2.ensures.front
    c.in_ok-add_both.ensures.told c.in_ok-add_both-2.ensures.told c.in_ok-add_queued.ensures.told
    c.in_ok-add_delivery.ensures.delivery c.in_ok-add_delivery.ensures.queue_delivery c.in_ok-add_delivery-2.ensures.delivery c.in_ok-add_delivery-2.ensures.queue_delivery

pub returns-clause-alike : goal.returns-clause-alike
returns-clause-alike c = judged_alike c.args.old.now c.args.new.now c.add_delivery-2.new.all.items (returns-clause-told c)
