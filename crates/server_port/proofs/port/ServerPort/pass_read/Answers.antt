-- one more point is passed
use Rattle.std.proofs.Common.{◌≡◌, ◌∙◌, refl, subst, arith}
use Rattle.std.proofs.lemmas.Grind.{common_steps}
use Rattle.server_port.specs.declared.gates.gate.Point.TheVariants.{FrameRead}
use Rattle.server_port.specs.Holds.{read_points}
use Rattle.server_port.specs.Points.{ArePassed}
use Rattle.server_port.proofs.Passing.{one_passed, passed_once_more}
use Rattle.server_port.proofs.port.ServerPort.pass_read.Goals as goal

pub loop-next-init : goal.loop-next-init
loop-next-init g c = record { seat = refl; course = refl; noted = refl; points = (refl, refl) }

pub loop-next-preserved : goal.loop-next-preserved
loop-next-preserved g c = record {
  seat = c.pass.ensures.seat ∙ c.loop-next.invariant.seat;
  course = c.pass.ensures.course ∙ c.loop-next.invariant.course;
  noted = c.pass.ensures.noted ∙ c.loop-next.invariant.noted;
  points = passed_once_more g.G.Gate.passes c.loop-next._next FrameRead c.args.self.now.gate c.loop-next.self.gate c.pass.new.self.gate c.args.self.now.is_spent c.loop-next.self.is_spent c.pass.new.self.is_spent
      c.loop-next.invariant.points (one_passed g.G.Gate.passes FrameRead c.loop-next.self.gate c.pass.new.self.gate c.loop-next.self.is_spent c.pass.new.self.is_spent c.pass.ensures.spent);
}

pub returns-clause-points : goal.returns-clause-points
returns-clause-points g c =
    let done : c.loop-next._next ≡ c.args.messages = grind (arith, common_steps) in
    subst (λ n. ArePassed g.G.Gate.passes (read_points n) c.args.self.now.gate c.args.self.now.is_spent c.loop-next.self.gate c.loop-next.self.is_spent) done c.loop-next.invariant.points
