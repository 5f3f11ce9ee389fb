-- a caller that is lenient to all is never told that an event is held back
use Rattle.std.proofs.Common.{subst, Err}
use Rattle.events.specs.declared.refusal.PublishRefusal.{PublishRefusal}
use Rattle.world_sessions.specs.leniency.Held.{to_all}
use Rattle.world.specs.Holding.{IsAppliedIf}
use Rattle.world.proofs.Applied.{never_held}
use Rattle.world.proofs.world.World.apply.Goals as goal

pub unreachable-requires : goal.unreachable-requires
unreachable-requires c =
    let P : PublishRefusal → Type 0 = λ refusal. IsAppliedIf to_all c.args.self.now c.args.event.now (Err refusal) c.apply_if.new.held.items c.apply_if.new.self in
    never_held _ _ _ _ (subst P c.in-Err-Held.field-0-is c.in-Err-Held.ensures.step)
