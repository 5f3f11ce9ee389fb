use Rattle.std.proofs.Common.{Bool, true, false}
use Rattle.message_changes.proofs.Told.{front_after, none_before}
use Rattle.message_changes.specs.Exact.{is_of, HasNone, NoneChanges}
use Rattle.message_changes.proofs.changes.add_both.Goals as goal

pub returns-clause-changes : goal.returns-clause-changes
returns-clause-changes c = λ before. c.in_ok-add_change-2.ensures.changes (c.in_ok-add_change.ensures.changes before)

pub returns-clause-front : goal.returns-clause-front
returns-clause-front c = front_after c.args.all.now.items c.add_change.new.all.items c.add_change-2.new.all.items c.in_ok-add_change.ensures.front c.in_ok-add_change-2.ensures.front

pub returns-clause-told : goal.returns-clause-told
returns-clause-told c = told
  where
    told : (is_gain : Bool) → HasNone c.args.kind is_gain c.add_change-2.new.all.items → NoneChanges c.args.old.now c.args.new.now is_gain c.args.kind
    told true none = c.in_ok-add_change.ensures.told (none_before (is_of c.args.kind true) c.add_change.new.all.items c.add_change-2.new.all.items c.in_ok-add_change-2.ensures.front none)
    told false none = c.in_ok-add_change-2.ensures.told none
