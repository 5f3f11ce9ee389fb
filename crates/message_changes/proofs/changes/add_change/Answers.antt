use Rattle.std.proofs.Common.{◌∷◌, [], ap, refl, sym, subst}
use Rattle.std.specs.Prelude.{is_some, All}
use Rattle.std.proofs.lemmas.List.Elements.{All-push}
use Rattle.pattern_sets.specs.Judging.{IsFound}
use Rattle.message_changes.proofs.Told.{front_same, line_told}
use Rattle.message_changes.specs.Judging.{changes_by, IsChange}
use Rattle.message_changes.proofs.changes.add_change.Goals as goal

pub returns-in-None-clause-front : goal.returns-in-None-clause-front
returns-in-None-clause-front c = front_same c.args.all.now.items

pub returns-in-None-clause-told : goal.returns-in-None-clause-told
returns-in-None-clause-told c = λ none. c.in_ok-found.ensures.none (ap is_some c.in-None.is)

pub returns-in_ok-push-in-Some-clause-changes : goal.returns-in_ok-push-in-Some-clause-changes
returns-in_ok-push-in-Some-clause-changes c =
    λ before.
    let old = c.args.old.now in
    let new = c.args.new.now in
    let here = subst (IsFound (changes_by c.args.is_gain c.args.kind old new)) c.in-Some.is c.in_ok-found.ensures.found in
    subst (All (IsChange old new)) (sym c.in_ok-push-in-Some.ensures.items)
    (All-push (IsChange old new) c.args.all.now.items record { kind = c.args.kind; is_gain = c.args.is_gain; asked = c.in-Some.asked } before here)

pub returns-in_ok-push-in-Some-clause-front : goal.returns-in_ok-push-in-Some-clause-front
returns-in_ok-push-in-Some-clause-front c = (record { kind = c.args.kind; is_gain = c.args.is_gain; asked = c.in-Some.asked } ∷ [], c.in_ok-push-in-Some.ensures.items)

pub returns-in_ok-push-in-Some-clause-told : goal.returns-in_ok-push-in-Some-clause-told
returns-in_ok-push-in-Some-clause-told c = λ none.
    absurd (line_told c.args.kind c.args.is_gain record { kind = c.args.kind; is_gain = c.args.is_gain; asked = c.in-Some.asked } c.args.all.now.items _ c.in_ok-push-in-Some.ensures.items refl refl none)
