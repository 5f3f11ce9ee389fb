use Rattle.std.proofs.Common.{◌∙◌, ◌++◌, ap, append_assoc, map, sym, List, ℕ, Bor}
use Rattle.std.specs.Option.{option_copied}
use Rattle.permissions.specs.Lists.{Entry}
use Rattle.message_changes.proofs.Parts.{parts_more}
use Rattle.message_changes.specs.Reasons.{entries_of, parts_of, rules_by}
use Rattle.message_changes.proofs.reasons.add_queues_of.Goals as goal

pub returns : goal.returns
returns c =
    let of = λ (p : Bor (List (List ℕ))). p.now in
    let before = map of c.args.all.now.items in
    let allow = c.allow_of-allow.result.now in
    let deny = c.deny_of-deny.result.now in
    c.in_ok-add_queues-2.ensures ∙ ap (λ (l : List (List (List ℕ))). l ++ parts_of deny) c.in_ok-add_queues.ensures ∙ append_assoc before (parts_of allow) (parts_of deny)
    ∙ ap (λ (l : List (List (List ℕ))). before ++ l)
    (sym (parts_more allow deny) ∙ ap (λ (l : List Entry). parts_of (l ++ deny)) c.allow_of-allow.ensures
    ∙ ap (λ (l : List Entry). parts_of (entries_of (rules_by (option_copied c.args.rules)).allow ++ l)) c.deny_of-deny.ensures)
