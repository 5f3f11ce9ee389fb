-- it is noted, and passes the gate
use Rattle.std.proofs.Common.{◌∙◌, ◌∷◌, [], ap, refl}
use Rattle.server_port.specs.declared.gates.gate.Point.TheVariants.{Answered}
use Rattle.server_log.specs.Noting.{IsAnswerNoted}
use Rattle.server_port.specs.Histories.{passed, was_same}
use Rattle.server_port.proofs.Handed.{twice}
use Rattle.server_port.proofs.Passing.{between, one_passed, passed_from}
use Rattle.server_port.proofs.port.ServerPort.follow_message.Goals as goal

pub returns-clause-noted : goal.returns-clause-noted
returns-clause-noted g c =
    between (IsAnswerNoted c.args.answer.now) c.args.self.now.noted c.args.self.now.noted c.note_answer.new.self c.pass.new.self.noted
    refl c.note_answer.ensures (c.pass.ensures.noted ∙ c.follow.ensures.kept.2)

pub returns-clause-points : goal.returns-clause-points
returns-clause-points g c =
    let followed = c.follow.new.self in
    let after = c.pass.new.self in
    passed_from g.G.Gate.passes (Answered ∷ []) c.args.self.now.gate followed.gate after.gate c.args.self.now.is_spent followed.is_spent after.is_spent
    c.follow.ensures.kept.0 c.follow.ensures.kept.1 (one_passed g.G.Gate.passes Answered followed.gate after.gate followed.is_spent after.is_spent c.pass.ensures.spent)

pub returns-clause-rotations : goal.returns-clause-rotations
returns-clause-rotations g c =
    twice (passed c.follow.result.0) (was_same c.follow.result.1) c.args.self.now.seat.rotations c.args.self.now.seat.rotations c.follow.new.self.seat.rotations c.pass.new.self.seat.rotations
    refl c.follow.ensures.rotations (ap (λ s. s.rotations) c.pass.ensures.seat)
