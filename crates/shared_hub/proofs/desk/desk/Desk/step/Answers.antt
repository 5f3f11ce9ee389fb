-- what is refused for want of memory keeps the guarantee
use Rattle.std.proofs.Common.{Err, refl}
use Rattle.hub.proofs.Guaranteed.{guaranteed}
use Rattle.shared_hub.proofs.desk.desk.Desk.step.Goals as goal

pub returns-then-is_err-clause-guarantee : goal.returns-then-is_err-clause-guarantee
returns-then-is_err-clause-guarantee g c =
    guaranteed c.args.self.now.hub c.args.event (Err (c.args.event, c.refusal-refusal.result)) c.args.self.now.hub c.prove_invariant.ensures.sound (refl, refl, c.refusal-refusal.ensures) tt
