-- one more answer is noted and followed, and passes the gate
use Rattle.std.proofs.Common.{◌∙◌, refl, arith}
use Rattle.server_port.proofs.Followed.{followed_more, none_followed}
use Rattle.server_port.proofs.Handed.{handed_all, handed_more}
use Rattle.server_port.proofs.Holds.{all_answered, all_noted, answered_more, noted_more}
use Rattle.server_port.proofs.port.ServerPort.follow_each.Goals as goal

pub loop-answer-init : goal.loop-answer-init
loop-answer-init g c = record { count = refl; rotations = omega arith; course = none_followed c.args.answers.now c.args.self.now.course; noted = refl; points = (refl, refl) }

pub loop-answer-preserved : goal.loop-answer-preserved
loop-answer-preserved g c = record {
  count = c.follow_message.ensures.count ∙ c.loop-answer.invariant.count;
  rotations = handed_more c.args.answers.now c.loop-answer.answer-index c.args.self.now.seat.rotations c.loop-answer.self.seat.rotations c.follow_message.new.self.seat.rotations c.loop-answer-test.true
      c.loop-answer.invariant.rotations c.follow_message.ensures.rotations;
  course = c.follow_message.ensures.course
      ∙ followed_more c.args.answers.now c.loop-answer.answer-index c.answer-item.result c.args.self.now.course c.loop-answer.self.course c.loop-answer-test.true c.answer-item.is c.loop-answer.invariant.course;
  noted = noted_more c.args.answers.now c.loop-answer.answer-index c.answer-item.result c.args.self.now.noted c.loop-answer.self.noted c.follow_message.new.self.noted c.loop-answer-test.true c.answer-item.is
      c.loop-answer.invariant.noted c.follow_message.ensures.noted;
  points = answered_more g.G.Gate.passes c.args.answers.now c.loop-answer.answer-index c.args.self.now.gate c.loop-answer.self.gate c.follow_message.new.self.gate
      c.args.self.now.is_spent c.loop-answer.self.is_spent c.follow_message.new.self.is_spent c.loop-answer-test.true c.loop-answer.invariant.points c.follow_message.ensures.points;
}

pub returns-clause-noted : goal.returns-clause-noted
returns-clause-noted g c =
    all_noted c.args.answers.now c.loop-answer.answer-index c.args.self.now.noted c.loop-answer.self.noted c.loop-answer-test.false c.loop-answer.invariant.noted

pub returns-clause-points : goal.returns-clause-points
returns-clause-points g c =
    all_answered g.G.Gate.passes c.args.answers.now c.loop-answer.answer-index c.args.self.now.gate c.loop-answer.self.gate c.args.self.now.is_spent c.loop-answer.self.is_spent c.loop-answer-test.false
    c.loop-answer.invariant.points

pub returns-clause-rotations : goal.returns-clause-rotations
returns-clause-rotations g c =
    handed_all c.args.answers.now c.loop-answer.answer-index c.args.self.now.seat.rotations c.loop-answer.self.seat.rotations c.loop-answer-test.false c.loop-answer.invariant.rotations
