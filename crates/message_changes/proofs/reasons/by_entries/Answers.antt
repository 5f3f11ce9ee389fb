use Rattle.std.proofs.Common.{◌∙◌, ◌++◌, ◌∷◌, [], cond, ap, sym, take, List, ℕ}
use Rattle.permissions.specs.Lists.{Entry}
use Rattle.message_changes.specs.Reasons.{first_of, is_reason, reason_of, reasons_by_entries, second_of, View}
use Rattle.message_changes.proofs.Members.{kept_more}
use Rattle.message_changes.proofs.reasons.by_entries.Goals as goal

pub loop-entry-preserved : goal.loop-entry-preserved
loop-entry-preserved c =
    let kind = c.args.rules.kind in
    let any = c.args.rules.any.now in
    let one = first_of c.args.rules in
    let other = second_of c.args.rules in
    let i = c.loop-entry.entry-index in
    let es = c.args.entries.now in
    let e = c.entry-item.result in
    c.in_ok-add_if_reason.ensures
    ∙ ap (λ (l : List (View × ℕ)). l ++ cond (is_reason kind any one e) (reason_of kind any one other e ∷ []) []) c.loop-entry.invariant
    ∙ ap (λ (x : Entry). reasons_by_entries kind any one other (take i es) ++ cond (is_reason kind any one x) (reason_of kind any one other x ∷ []) []) c.entry-item.is
    ∙ sym (kept_more (reason_of kind any one other) (is_reason kind any one) es i e c.loop-entry-test.true)
