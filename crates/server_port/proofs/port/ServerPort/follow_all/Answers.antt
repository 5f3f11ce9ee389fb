-- those that the hold has kept
use Rattle.std.proofs.Common.{◌≡◌, ◌≤◌, ◌+◌, ◌*◌, ◌∙◌, List, ap, length, subst}
use Rattle.events.specs.declared.answer.Entry.{Entry}
use Rattle.server_port.specs.Holds.{AreAnswersNoted, answer_points}
use Rattle.server_port.specs.Points.{ArePassed}
use Rattle.server_port.proofs.port.ServerPort.follow_all.Goals as goal

pub returns-clause-noted : goal.returns-clause-noted
returns-clause-noted g c =
    let they : c.as_slice.result.now ≡ c.args.self.now.context.hold.answers.items = c.as_slice.ensures.value ∙ ap (λ v. v.items) c.replace-answers.ensures.value in
    subst (λ (l : List Entry). AreAnswersNoted l c.args.self.now.noted c.follow_each.new.self.noted) they c.follow_each.ensures.noted

pub returns-clause-points : goal.returns-clause-points
returns-clause-points g c =
    let they : c.as_slice.result.now ≡ c.args.self.now.context.hold.answers.items = c.as_slice.ensures.value ∙ ap (λ v. v.items) c.replace-answers.ensures.value in
    let before = c.args.self.now in
    let after = c.follow_each.new.self in
    subst (λ (l : List Entry). ArePassed g.G.Gate.passes (answer_points (length l)) before.gate before.is_spent after.gate after.is_spent) they c.follow_each.ensures.points

pub returns-clause-rotations : goal.returns-clause-rotations
returns-clause-rotations g c =
    let they : c.as_slice.result.now ≡ c.args.self.now.context.hold.answers.items = c.as_slice.ensures.value ∙ ap (λ v. v.items) c.replace-answers.ensures.value in
    subst (λ (l : List Entry). c.follow_each.new.self.seat.rotations ≤ c.args.self.now.seat.rotations + 2 * length l) they c.follow_each.ensures.rotations
