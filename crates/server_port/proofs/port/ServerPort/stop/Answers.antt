-- by whether the message is held back
use Rattle.std.proofs.Common.{ap, subst, sym}
use Rattle.server_port.specs.Points.{ArePassed, answered_if}
use Rattle.server_port.proofs.port.ServerPort.stop.Goals as goal

pub returns-clause-points : goal.returns-clause-points
returns-clause-points g c =
    let after = c.pass_answered.new.self in
    subst (λ w. ArePassed g.G.Gate.passes (answered_if w) c.args.self.now.gate c.args.self.now.is_spent after.gate after.is_spent)
    (sym (ap (λ course. course.why) c.pass_answered.ensures.course)) c.pass_answered.ensures.points
