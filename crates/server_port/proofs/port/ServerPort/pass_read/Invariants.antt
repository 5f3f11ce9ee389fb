-- so many points are passed, and nothing else has changed
use Rattle.std.proofs.Common.{◌≡◌}
use Rattle.server_port.specs.Holds.{read_points}
use Rattle.server_port.specs.Points.{ArePassed}
use Rattle.server_port.proofs.port.ServerPort.pass_read.Given as goal

abbrev pub invariant-loop-next : goal.invariant-loop-next
invariant-loop-next g l = record {
  seat : l.self.seat ≡ l.initial.self.seat;
  course : l.self.course ≡ l.initial.self.course;
  noted : l.self.noted ≡ l.initial.self.noted;
  points : ArePassed g.G.Gate.passes (read_points l._next) l.initial.self.gate l.initial.self.is_spent l.self.gate l.self.is_spent;
}
