use Rattle.std.proofs.Common.{◌≡◌, ◌+◌, ◌-◌, List, ◌∷◌, ◌++◌, drop, take, flat_map, length, sym, ap, ◌∙◌, arith, length-drop}
use Rattle.std.proofs.lemmas.List.{drop_more, take_all}
use Rattle.events.specs.Waiting.{each}
use Rattle.events.specs.declared.waiting.Waiting.{Waiting}
use Rattle.events.proofs.Elements.{one_given, all_given}
use Rattle.events.proofs.waiting.Deliveries.next.Goals as goal

pub returns-then-self-count : goal.returns-then-self-count
returns-then-self-count c =
    let xs : List Waiting = c.loop-self.self-inside.left.now in
    let x = c.first-item.result in
    let given = c.loop-self.self-inside.given in
    let first : xs ≡ x ∷ drop 1 xs = drop_more xs 0 x c.in-len1-up.len_at_least ∙ ap (λ y. y ∷ drop 1 xs) (sym c.first-item.is) in
    let all : flat_map each xs ≡ each x ++ flat_map each (drop 1 xs) = ap (flat_map each) first in
    sym c.loop-self.invariant
    ∙ ap (drop given) all
    ∙ one_given (each x) (flat_map each (drop 1 xs)) given c.delivery-delivery.result c.delivery-delivery.ensures
    ∙ ap (λ t. c.delivery-delivery.result ∷ drop (given + 1) t) (sym all)

pub loop-self-preserved : goal.loop-self-preserved
loop-self-preserved c =
    let xs : List Waiting = c.loop-self.self-inside.left.now in
    let x = c.first-item.result in
    let given = c.loop-self.self-inside.given in
    let first : xs ≡ x ∷ drop 1 xs = drop_more xs 0 x c.in-len1-up.len_at_least ∙ ap (λ y. y ∷ drop 1 xs) (sym c.first-item.is) in
    let rest : take (length xs - 1) (drop 1 xs) ≡ drop 1 xs = take_all (length xs - 1) (drop 1 xs) (omega (arith, length-drop 1 xs)) in
    ap (λ t. drop (given - c.count-count.result) (flat_map each t)) rest
    ∙ all_given (each x) (flat_map each (drop 1 xs)) given c.count-count.result c.count-count.ensures.all c.if-self-count.false
    ∙ ap (λ t. drop given (flat_map each t)) (sym first)
    ∙ c.loop-self.invariant
