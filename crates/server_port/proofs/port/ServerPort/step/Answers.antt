-- an answer has the history handed out twice at most
use Rattle.std.proofs.Common.{ap}
use Rattle.server_port.specs.Histories.{passed, was_same}
use Rattle.server_port.proofs.Handed.{twice}
use Rattle.server_port.proofs.port.ServerPort.step.Goals as goal

pub returns-in-Ok-clause-rotations : goal.returns-in-Ok-clause-rotations
returns-in-Ok-clause-rotations g c =
    twice (passed c.follow.result.0) (was_same c.follow.result.1) c.args.self.now.seat.rotations c.submit_without_receipt.new.seat.rotations c.follow.new.self.seat.rotations c.free.new.self.seat.rotations
    c.in-Ok.ensures.rotations c.follow.ensures.rotations (ap (λ s. s.rotations) c.free.ensures.seat)
