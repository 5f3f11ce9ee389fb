-- the first of those from a place on, and those behind it
use Rattle.std.proofs.Common.{◌≡◌, ◌∙◌, ◌+◌, ◌-◌, ◌≤◌, List, length, drop, ap, sym, subst, arith}
use Rattle.world_views.specs.Changing.{HaveRoom}
use Rattle.world_views.specs.declared.changing.Opening.{Opening}
use Rattle.world_views.proofs.InTurn.{from_place}
use Rattle.world_views.proofs.changing.make_room.Goals as goal

pub make_room_for-requires : goal.make_room_for-requires
make_room_for-requires c =
    let all : List Opening = c.args.openings.now in
    let left = c.loop-left.left in
    let some = c.loop-left-test.true in
    let within : left - 1 ≤ length all = (let h = c.loop-left.invariant.within in omega (arith, h)) in
    let back : (left - 1) + 1 ≡ left = omega (arith, some) in
    subst (λ (os : List Opening). HaveRoom c.args.now os c.loop-left.routes) (sym (from_place (left - 1) all within ∙ ap (λ n. drop n all) back)) c.loop-left.invariant.room
