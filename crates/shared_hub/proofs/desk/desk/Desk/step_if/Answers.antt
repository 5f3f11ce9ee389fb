-- the step is one by the waits as they were before the publisher was taken out
use Rattle.std.proofs.Common.{Ok, Err, subst}
use Rattle.events.specs.declared.refusal.PublishRefusal.{PublishRefusal}
use Rattle.events.specs.declared.refusal.PublishRefusal.TheVariants.{By, Held}
use Rattle.world_sessions.specs.leniency.Held.{Terms}
use Rattle.hub.specs.Holding.{IsStepIf}
use Rattle.shared_waits.specs.Waiting.{is_out_with}
use Rattle.shared_hub.specs.desk.Bounds.{terms_at}
use Rattle.shared_hub.proofs.desk.Offering.{as_before, held_step, held_guaranteed}
use Rattle.shared_hub.proofs.desk.desk.Desk.step_if.Goals as goal

pub returns-in-Ok-clause-step : goal.returns-in-Ok-clause-step
returns-in-Ok-clause-step g c =
    as_before c.args.self.now.waits c.take_out.new.self.waits c.args.self.now.hub c.take_out.new.self.hub c.args.event c.capacity.result c.size_of-told.result c.room_beside.result (Ok c.in-Ok.answer) c.step_if.new.held.items c.step_if.new.self
    c.take_out.ensures.waits c.take_out.ensures.hub c.capacity.ensures c.size_of-told.ensures c.room_beside.ensures c.in-Ok.ensures.transition

pub returns-in-By-clause-step : goal.returns-in-By-clause-step
returns-in-By-clause-step g c =
    let t : Terms = record { lets = is_out_with c.take_out.new.self.waits c.args.event.now; room = c.room_beside.result } in
    let R : PublishRefusal → Type 0 = λ q. IsStepIf t c.take_out.new.self.hub c.args.event (Err (c.in-Err.event, q)) c.step_if.new.held.items c.step_if.new.self in
    as_before c.args.self.now.waits c.take_out.new.self.waits c.args.self.now.hub c.take_out.new.self.hub c.args.event c.capacity.result c.size_of-told.result c.room_beside.result (Err (c.in-Err.event, By c.in-By.refusal)) c.step_if.new.held.items c.step_if.new.self
    c.take_out.ensures.waits c.take_out.ensures.hub c.capacity.ensures c.size_of-told.ensures c.room_beside.ensures (subst R c.in-By.is c.in-Err.ensures.transition)

pub returns-in-Held-clause-step : goal.returns-in-Held-clause-step
returns-in-Held-clause-step g c =
    let t : Terms = record { lets = is_out_with c.take_out.new.self.waits c.args.event.now; room = c.room_beside.result } in
    let R : PublishRefusal → Type 0 = λ q. IsStepIf t c.take_out.new.self.hub c.args.event (Err (c.in-Err.event, q)) c.step_if.new.held.items c.step_if.new.self in
    held_step (terms_at c.args.self.now.waits c.args.self.now.hub c.args.event) c.args.self.now.hub c.step_if.new.self c.hold-held.new.self.hub c.args.event c.in-Err.event c.step_if.new.held.items c.hold-held.new.self.held.items c.hold-held.result
    (as_before c.args.self.now.waits c.take_out.new.self.waits c.args.self.now.hub c.take_out.new.self.hub c.args.event c.capacity.result c.size_of-told.result c.room_beside.result (Err (c.in-Err.event, Held)) c.step_if.new.held.items c.step_if.new.self
    c.take_out.ensures.waits c.take_out.ensures.hub c.capacity.ensures c.size_of-told.ensures c.room_beside.ensures (subst R c.in-Held.is c.in-Err.ensures.transition))
    c.hold-held.ensures.hub c.hold-held.ensures.held c.hold-held.ensures.due

pub returns-in-Held-clause-guarantee : goal.returns-in-Held-clause-guarantee
returns-in-Held-clause-guarantee g c =
    held_guaranteed (terms_at c.args.self.now.waits c.args.self.now.hub c.args.event) c.args.self.now.hub c.hold-held.new.self.hub c.args.event c.in-Err.event c.hold-held.new.self.held.items c.hold-held.result
    c.prove_invariant.ensures.sound (returns-in-Held-clause-step g c)
