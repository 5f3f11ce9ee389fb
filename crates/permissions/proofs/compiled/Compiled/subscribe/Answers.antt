use Rattle.std.specs.Option.{option_copied}
use Rattle.permissions.proofs.Reason.{subscribe_justified}
use Rattle.permissions.proofs.compiled.Compiled.subscribe.Goals as goal

pub returns-clause-justified : goal.returns-clause-justified
returns-clause-justified c =
    subscribe_justified c.args.pattern.now c.tokens.ensures.grammar (option_copied c.args.queue) c.args.self.now c.judge_subscribe.result c.judge_subscribe.ensures
