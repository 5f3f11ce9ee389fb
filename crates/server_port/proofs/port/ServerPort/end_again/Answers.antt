-- what came of the event once more
use Rattle.std.proofs.Common.{◌∙◌, ◌∷◌, [], Ok, Err, ap, refl, subst, sym}
use Rattle.server_port.specs.declared.gates.gate.Point.TheVariants.{Answered}
use Rattle.server_log.specs.Noting.{IsAnswerNoted}
use Rattle.server_port.specs.Holds.{IsEndNoted, end_points}
use Rattle.server_port.specs.declared.port.ServerPort.{ServerPort}
use Rattle.shared_hub.specs.Entering.{IsOfferedBy}
use Rattle.server_port.proofs.Passing.{between, one_passed, passed_from}
use Rattle.server_port.proofs.SeatRuns.{by_count}
use Rattle.server_port.proofs.Whys.{stopped_why}
use Rattle.server_port.proofs.port.ServerPort.end_again.Goals as goal

pub returns-in-Ok-clause-end : goal.returns-in-Ok-clause-end
returns-in-Ok-clause-end g c = (
  Ok c.in-Ok.answer,
  refl,
  tt,
  subst (λ n. IsOfferedBy g.L.Run.opening c.args.self.now.seat.count c.args.event (Ok c.in-Ok.answer) n)
      (sym (ap (λ s. s.count) c.pass.ensures.seat)) c.in-Ok.ensures.offered,
)

pub returns-in-Ok-clause-why : goal.returns-in-Ok-clause-why
returns-in-Ok-clause-why g c = ap (λ course. course.why) (c.pass.ensures.course ∙ c.in-Ok.ensures.course)

pub returns-in-Ok-clause-noted : goal.returns-in-Ok-clause-noted
returns-in-Ok-clause-noted g c =
    between (IsAnswerNoted c.in-Ok.answer) c.args.self.now.noted c.offer_again.new.self.noted c.note_answer.new.self c.pass.new.self.noted
    c.in-Ok.ensures.kept.2 c.note_answer.ensures c.pass.ensures.noted

pub returns-in-Ok-clause-points : goal.returns-in-Ok-clause-points
returns-in-Ok-clause-points g c =
    let tried = c.offer_again.new.self in
    let after = c.pass.new.self in
    passed_from g.G.Gate.passes (Answered ∷ []) c.args.self.now.gate tried.gate after.gate c.args.self.now.is_spent tried.is_spent after.is_spent
    c.in-Ok.ensures.kept.0 c.in-Ok.ensures.kept.1 (one_passed g.G.Gate.passes Answered tried.gate after.gate tried.is_spent after.is_spent c.pass.ensures.spent)

pub returns-in-Err-clause-end : goal.returns-in-Err-clause-end
returns-in-Err-clause-end g c = (
  Err (c.in-Err.event, c.in-Err.refusal),
  c.stop.ensures.end,
  c.in-Err.ensures.err,
  subst (λ n. IsOfferedBy g.L.Run.opening c.args.self.now.seat.count c.args.event (Err (c.in-Err.event, c.in-Err.refusal)) n) (sym (ap (λ s. s.count) c.stop.ensures.seat))
      (by_count {P = ServerPort g.row.L.Denot g.row.R.Denot g.row.G.Denot g.L.Run} (λ p. p.seat.count) g.L.Run.opening c.args.self.now c.args.event (Err (c.in-Err.event, c.in-Err.refusal)) c.offer_again.new.self c.in-Err.ensures.offered),
)

pub returns-in-Err-clause-why : goal.returns-in-Err-clause-why
returns-in-Err-clause-why g c =
    stopped_why c.stop.result _ c.in-Err.refusal _ _ c.args.self.now.course c.stop.new.self.course c.stop.ensures.end (c.stop.ensures.course ∙ c.in-Err.ensures.course)

pub returns-in-Err-clause-noted : goal.returns-in-Err-clause-noted
returns-in-Err-clause-noted g c =
    between (IsEndNoted c.stop.result) c.args.self.now.noted c.offer_again.new.self.noted c.stop.new.self.noted c.stop.new.self.noted
    c.in-Err.ensures.kept.2 c.stop.ensures.noted refl

pub returns-in-Err-clause-points : goal.returns-in-Err-clause-points
returns-in-Err-clause-points g c =
    let tried = c.offer_again.new.self in
    let after = c.stop.new.self in
    passed_from g.G.Gate.passes (end_points after.course.why c.stop.result) c.args.self.now.gate tried.gate after.gate c.args.self.now.is_spent tried.is_spent after.is_spent
    c.in-Err.ensures.kept.0 c.in-Err.ensures.kept.1 c.stop.ensures.points
