-- no item is left
use Rattle.std.proofs.Common.{◌≡◌, ◌∙◌, List, [], ℕ, drop, length, ap, sym, arith}
use Rattle.std.proofs.lemmas.List.{drop_all}
use Rattle.events.specs.declared.answer.Item.{Item}
use Rattle.world_subscriptions.specs.Counting.{in_turn, entered_ids}
use Rattle.world_subscriptions.proofs.Counting.{none_told}
use Rattle.world_subscriptions.proofs.subscriptions.Subscriptions.count_each.Goals as goal

pub returns : goal.returns
returns c =
    let l = c.loop-item in
    let all = drop l.next c.args.all.now in
    let end = c.loop-item-test.false in
    let within = l.auto.item-index-end in
    let none : drop l.item-index c.args.items.now ≡ [] = drop_all l.item-index c.args.items.now (omega (arith, end, within)) in
    ap (λ (ids : List ℕ). in_turn ids l.self) (sym (ap (λ (items : List Item). entered_ids all items) none ∙ none_told all))
    ∙ l.invariant.1
