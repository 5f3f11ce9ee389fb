use Rattle.std.proofs.Common.{◌∙◌, ◌+◌, ◌++◌, ◌∷◌, [], cond, sym, ap, drop, List}
use Rattle.std.proofs.lemmas.List.{drop_more}
use Rattle.events.specs.declared.answer.Item.{Item}
use Rattle.events.specs.declared.answer.Item.TheVariants.{Entered, Full}
use Rattle.events.specs.declared.answer.Addressed.{Addressed}
use Rattle.world_sessions.specs.deliveries.Planned.{room_at, planned}
use Rattle.world_sessions.proofs.deliveries.Plans.{planned-more}
use Rattle.world_sessions.proofs.deliveries.plan.plan_each.Goals as goal

pub loop-next-preserved : goal.loop-next-preserved
loop-next-preserved c =
    let a = c.next-item.result in
    let all = c.args.all.now in
    let zs = c.args.by.list.now in
    let i = c.loop-next.next-index in
    let rest : List Addressed = drop (i + 1) all in
    let made = c.in_ok-push.ensures.items ∙ ap (λ (x : Item). c.loop-next.items.items ++ x ∷ []) (c.in_ok-item.ensures ∙ ap (λ b. cond b (Entered a.conn a.delivery.sid) (Full a.conn a.delivery.sid)) c.take_room-has_room.ensures.had) in
    ap (λ (xs : List Item). xs ++ planned rest (room_at zs c.take_room-has_room.new.rooms)) made
    ∙ planned-more c.loop-next.items.items a rest zs c.loop-next.rooms c.take_room-has_room.new.rooms c.take_room-has_room.ensures.after
    ∙ ap (λ (xs : List Addressed). c.loop-next.items.items ++ planned xs (room_at zs c.loop-next.rooms)) (sym (drop_more all i a c.loop-next-test.true ∙ ap (λ (x : Addressed). x ∷ rest) (sym c.next-item.is)))
    ∙ c.loop-next.invariant
