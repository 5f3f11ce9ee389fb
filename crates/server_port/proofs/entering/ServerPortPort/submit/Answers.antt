-- the points before and after the event, and what is noted of its answer
use Rattle.std.proofs.Common.{◌≡◌, ◌∙◌, ◌∷◌, [], subst, sym}
use Rattle.server_port.specs.declared.gates.gate.Point.TheVariants.{Answered, FrameRead}
use Rattle.server_log.specs.Noting.{IsNoted}
use Rattle.server_port.proofs.Passing.{one_passed, passed_on}
use Rattle.server_port.proofs.entering.ServerPortPort.submit.Goals as goal

pub returns-clause-noted : goal.returns-clause-noted
returns-clause-noted g c =
    let before : c.enter-result.new.self.noted ≡ c.args.self.now.noted = c.enter-result.ensures.kept.2 ∙ c.pass.ensures.noted in
    let noted = subst (λ n. IsNoted c.enter-result.result n c.note.new.self) before c.note.ensures in
    subst (λ n. IsNoted c.enter-result.result c.args.self.now.noted n) (sym c.pass-2.ensures.noted) noted

pub returns-clause-points : goal.returns-clause-points
returns-clause-points g c =
    passed_on g.G.Gate.passes FrameRead (Answered ∷ []) c.args.self.now.gate c.pass.new.self.gate c.enter-result.new.self.gate c.pass-2.new.self.gate
    c.args.self.now.is_spent c.pass.new.self.is_spent c.enter-result.new.self.is_spent c.pass-2.new.self.is_spent
    c.pass.ensures.spent c.enter-result.ensures.kept.0 c.enter-result.ensures.kept.1
    (one_passed g.G.Gate.passes Answered c.enter-result.new.self.gate c.pass-2.new.self.gate c.enter-result.new.self.is_spent c.pass-2.new.self.is_spent c.pass-2.ensures.spent)
