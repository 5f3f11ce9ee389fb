-- a user who is denied nothing is let through by any marks
use Rattle.std.proofs.Common.{◌≡◌, ◌∙◌, [], sym}
use Rattle.std.proofs.lemmas.Bool.{eqb-true}
use Rattle.std.proofs.lemmas.List.{nil_from_length}
use Rattle.permissions.proofs.deny_marks.Judged.{none_denied}
use Rattle.permissions.proofs.deny_marks.table.DenyMarks.lets_through.Goals as goal

pub returns-then-is_empty : goal.returns-then-is_empty
returns-then-is_empty c =
    let none : c.deny_of-deny.result.now ≡ [] = nil_from_length c.deny_of-deny.result.now (eqb-true _ 0 (sym c.is_empty.ensures ∙ c.if-is_empty.true)) in
    sym (none_denied _ c.args.rules.now c.args.subject.now c.args.queue.now (sym c.deny_of-deny.ensures ∙ none))
