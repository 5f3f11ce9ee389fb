-- by whether the message is held back
use Rattle.std.proofs.Common.{refl, subst, sym}
use Rattle.server_port.specs.declared.gates.gate.Point.TheVariants.{Answered}
use Rattle.server_port.specs.Points.{ArePassed, answered_if}
use Rattle.server_port.proofs.Passing.{one_passed}
use Rattle.server_port.proofs.port.ServerPort.pass_answered.Goals as goal

pub returns-in-None-clause-points : goal.returns-in-None-clause-points
returns-in-None-clause-points g c =
    subst (λ w. ArePassed g.G.Gate.passes (answered_if w) c.args.self.now.gate c.args.self.now.is_spent c.pass.new.self.gate c.pass.new.self.is_spent) (sym c.in-None.is)
    (one_passed g.G.Gate.passes Answered c.args.self.now.gate c.pass.new.self.gate c.args.self.now.is_spent c.pass.new.self.is_spent c.pass.ensures.spent)

pub returns-in-Some-clause-points : goal.returns-in-Some-clause-points
returns-in-Some-clause-points g c =
    subst (λ w. ArePassed g.G.Gate.passes (answered_if w) c.args.self.now.gate c.args.self.now.is_spent c.args.self.now.gate c.args.self.now.is_spent) (sym c.in-Some.is) (refl, refl)
