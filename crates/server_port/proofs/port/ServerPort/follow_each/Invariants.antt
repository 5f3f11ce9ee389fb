-- the answers so far are noted and followed, and have passed the gate
use Rattle.std.proofs.Common.{◌≡◌, ◌≤◌, ◌+◌, ◌*◌, length, take}
use Rattle.server_port.specs.Courses.{all_followed}
use Rattle.server_port.specs.Holds.{AreAnswersNoted, answer_points}
use Rattle.server_port.specs.Points.{ArePassed}
use Rattle.server_port.proofs.port.ServerPort.follow_each.Given as goal

abbrev pub invariant-loop-answer : goal.invariant-loop-answer
invariant-loop-answer g l = record {
  count : l.self.seat.count ≡ l.initial.self.seat.count;
  rotations : l.self.seat.rotations ≤ l.initial.self.seat.rotations + 2 * length (take l.answer-index l.answers);
  course : l.self.course ≡ all_followed (take l.answer-index l.answers) l.initial.self.course;
  noted : AreAnswersNoted (take l.answer-index l.answers) l.initial.self.noted l.self.noted;
  points : ArePassed g.G.Gate.passes (answer_points (length (take l.answer-index l.answers))) l.initial.self.gate l.initial.self.is_spent l.self.gate l.self.is_spent;
}
