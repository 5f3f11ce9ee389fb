use Rattle.std.proofs.Common.{◌∙◌, ◌++◌, ◌∷◌, [], cond, ap, map, sym, take, List}
use Rattle.std.specs.List.{filter}
use Rattle.permissions.specs.Lists.{Entry}
use Rattle.message_changes.specs.Reasons.{takes, view_in, View}
use Rattle.message_changes.proofs.Members.{kept_more}
use Rattle.message_changes.proofs.form.reasons_of.Goals as goal

pub loop-entry-preserved : goal.loop-entry-preserved
loop-entry-preserved c =
    let form = c.args.form in
    let any = c.args.any.now in
    let i = c.loop-entry.entry-index in
    let es = c.args.entries.now in
    let e = c.entry-item.result in
    c.in_ok-add_if_taken.ensures
    ∙ ap (λ (l : List View). l ++ cond (takes form e) (view_in form any e ∷ []) []) c.loop-entry.invariant
    ∙ ap (λ (x : Entry). map (view_in form any) (filter (takes form) (take i es)) ++ cond (takes form x) (view_in form any x ∷ []) []) c.entry-item.is
    ∙ sym (kept_more (view_in form any) (takes form) es i e c.loop-entry-test.true)
