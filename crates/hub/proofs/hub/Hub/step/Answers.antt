-- a caller that is lenient to all is never told that an event is held back
use Rattle.std.proofs.Common.{Err, subst}
use Rattle.events.specs.declared.refusal.PublishRefusal.{PublishRefusal}
use Rattle.world_sessions.specs.leniency.Held.{to_all}
use Rattle.hub.specs.Holding.{IsStepIf}
use Rattle.hub.proofs.Legal.{never-held}
use Rattle.hub.proofs.hub.Hub.step.Goals as goal

pub unreachable-requires : goal.unreachable-requires
unreachable-requires c =
    let P : PublishRefusal → Type 0 = λ refusal. IsStepIf to_all c.args.self.now c.args.event (Err (c.in-Err.event, refusal)) c.step_if.new.held.items c.step_if.new.self in
    never-held _ _ _ _ _ (subst P c.in-Held.is c.in-Err.ensures.transition)
