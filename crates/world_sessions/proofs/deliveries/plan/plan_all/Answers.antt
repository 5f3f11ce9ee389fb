-- where all have room, each enters, and where none has a reply nothing is to be noted
use Rattle.std.proofs.Common.{◌≡◌, ◌∙◌, Option, map, subst}
use Rattle.std.specs.Global.{Vec}
use Rattle.std.specs.Prelude.{IfSome}
use Rattle.events.specs.declared.answer.Item.{Item}
use Rattle.world_sessions.specs.deliveries.Planned.{entered, rooms_of, AreRoomy}
use Rattle.world_sessions.proofs.deliveries.Plans.{roomy-delivered, roomy-noted}
use Rattle.world_sessions.proofs.deliveries.plan.plan_all.Goals as goal

pub returns-in-Some-clause-items : goal.returns-in-Some-clause-items
returns-in-Some-clause-items c now =
    let enters = subst (λ (o : Option (Vec Item)). IfSome o (λ items. AreRoomy c.args.all.now (rooms_of c.args.by.list.now) × (items.items ≡ map entered c.args.all.now))) c.in-Some.is c.in_ok-enter_all.ensures in
    enters.1 ∙ roomy-delivered now c.args.all.now c.args.by.list.now enters.0

pub returns-in-Some-clause-noted : goal.returns-in-Some-clause-noted
returns-in-Some-clause-noted c =
    let enters = subst (λ (o : Option (Vec Item)). IfSome o (λ items. AreRoomy c.args.all.now (rooms_of c.args.by.list.now) × (items.items ≡ map entered c.args.all.now))) c.in-Some.is c.in_ok-enter_all.ensures in
    roomy-noted c.args.all.now c.args.by.list.now (λ k d h. (enters.0 k d h).0) (c.requires.none c.if-not-has_reply.true)
