use Rattle.std.specs.Option.{option_copied}
use Rattle.permissions.proofs.Reason.{delivery_justified}
use Rattle.permissions.proofs.compiled.Compiled.admits.Goals as goal

pub returns-clause-justified : goal.returns-clause-justified
returns-clause-justified c =
    delivery_justified c.args.subject.now (option_copied c.args.queue) c.args.self.now c.judge_delivery.result c.judge_delivery.ensures
