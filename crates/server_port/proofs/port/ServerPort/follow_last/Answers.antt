-- what came of the last message ends the run
use Rattle.std.proofs.Common.{Some, ap, inl, subst, sym}
use Rattle.shared_waits.specs.runs.Runs.{Came, told_end}
use Rattle.server_port.specs.Ends.{IsEnded}
use Rattle.server_port.proofs.port.ServerPort.follow_last.Goals as goal

pub returns-in-Ok-clause-end : goal.returns-in-Ok-clause-end
returns-in-Ok-clause-end g c = inl (ap (λ (r : Came). told_end (Some r)) (sym c.in-Ok.is), c.follow_message.ensures.count)

pub returns-in-Ok-clause-why : goal.returns-in-Ok-clause-why
returns-in-Ok-clause-why g c = ap (λ course. course.why) c.follow_message.ensures.course

pub returns-in-Err-clause-end : goal.returns-in-Err-clause-end
returns-in-Err-clause-end g c =
    let P : Came → Type 0 = λ r. IsEnded g.L.Run.opening r c.args.self.now.seat.count c.follow_refusal-end.result c.follow_refusal-end.new.self.seat.count in
    subst P (sym c.in-Err.is) c.follow_refusal-end.ensures.end
