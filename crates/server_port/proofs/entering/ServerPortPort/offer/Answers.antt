-- the points before and after the message, and what is noted of its answer
use Rattle.std.proofs.Common.{◌≡◌, ◌∙◌, ap, subst, sym}
use Rattle.server_port.specs.declared.gates.gate.Point.TheVariants.{FrameRead}
use Rattle.server_log.specs.Noting.{IsOfferNoted}
use Rattle.server_port.specs.Points.{ArePassed, answered_if, offer_points}
use Rattle.server_port.proofs.Passing.{passed_on}
use Rattle.server_port.proofs.entering.ServerPortPort.offer.Goals as goal

pub returns-clause-noted : goal.returns-clause-noted
returns-clause-noted g c = λ asked.
    let before : c.enter_message-result.new.self.noted ≡ c.args.self.now.noted = c.enter_message-result.ensures.kept.2 ∙ c.pass.ensures.noted in
    let noted = subst (λ n. IsOfferNoted c.enter_message-result.result n c.note_offer.new.self) before c.note_offer.ensures in
    subst (λ n. IsOfferNoted c.enter_message-result.result c.args.self.now.noted n) (sym c.pass_answered.ensures.noted) noted

pub returns-clause-points : goal.returns-clause-points
returns-clause-points g c = λ asked.
    let passes = g.G.Gate.passes in
    let after = c.pass_answered.new.self in
    subst (λ w. ArePassed passes (offer_points w) c.args.self.now.gate c.args.self.now.is_spent after.gate after.is_spent) (sym (ap (λ course. course.why) c.pass_answered.ensures.course))
    (passed_on passes FrameRead (answered_if c.enter_message-result.new.self.course.why) c.args.self.now.gate c.pass.new.self.gate c.enter_message-result.new.self.gate after.gate
    c.args.self.now.is_spent c.pass.new.self.is_spent c.enter_message-result.new.self.is_spent after.is_spent
    c.pass.ensures.spent c.enter_message-result.ensures.kept.0 c.enter_message-result.ensures.kept.1 c.pass_answered.ensures.points)
