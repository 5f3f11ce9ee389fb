use Rattle.std.proofs.Common.{◌∙◌, ◌++◌, ap, map, sym, List, ℕ, Bor}
use Rattle.message_changes.proofs.Parts.{parts_more}
use Rattle.message_changes.specs.Reasons.{entries_in, first_of, parts_of, second_of}
use Rattle.message_changes.proofs.reasons.queues_of.Goals as goal

pub returns : goal.returns
returns c =
    let of = λ (p : Bor (List (List ℕ))). p.now in
    let one = entries_in (first_of c.args.rules) in
    let other = entries_in (second_of c.args.rules) in
    c.in_ok-add_queues_of-2.ensures
    ∙ ap (λ (l : List (List (List ℕ))). l ++ parts_of other) (c.in_ok-add_queues_of.ensures ∙ ap (λ (l : List (Bor (List (List ℕ)))). map of l ++ parts_of one) c.new-all.ensures.items)
    ∙ sym (parts_more one other)
