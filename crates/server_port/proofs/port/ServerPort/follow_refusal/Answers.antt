-- a message that is held back
use Rattle.std.proofs.Common.{◌∙◌, refl}
use Rattle.events.specs.declared.refusal.PublishRefusal.TheVariants.{Held}
use Rattle.server_port.specs.Holds.{IsEndNoted, end_points}
use Rattle.server_port.proofs.Passing.{between, passed_from}
use Rattle.server_port.proofs.Whys.{stopped_why}
use Rattle.server_port.proofs.port.ServerPort.follow_refusal.Goals as goal

pub returns-in-Held-clause-why : goal.returns-in-Held-clause-why
returns-in-Held-clause-why g c =
    stopped_why c.stop.result _ Held _ _ c.args.self.now.course c.stop.new.self.course c.stop.ensures.end (c.stop.ensures.course ∙ c.note_refusal.ensures.course)

pub returns-in-Held-clause-noted : goal.returns-in-Held-clause-noted
returns-in-Held-clause-noted g c =
    between (IsEndNoted c.stop.result) c.args.self.now.noted c.note_refusal.new.self.noted c.stop.new.self.noted c.stop.new.self.noted
    c.note_refusal.ensures.kept.2 c.stop.ensures.noted refl

pub returns-in-Held-clause-points : goal.returns-in-Held-clause-points
returns-in-Held-clause-points g c =
    let held = c.note_refusal.new.self in
    let after = c.stop.new.self in
    passed_from g.G.Gate.passes (end_points after.course.why c.stop.result) c.args.self.now.gate held.gate after.gate c.args.self.now.is_spent held.is_spent after.is_spent
    c.note_refusal.ensures.kept.0 c.note_refusal.ensures.kept.1 c.stop.ensures.points
