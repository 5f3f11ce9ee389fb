use Rattle.permissions.proofs.Reason.{publish_justified}
use Rattle.permissions.proofs.compiled.Compiled.publish.Goals as goal

pub returns-clause-justified : goal.returns-clause-justified
returns-clause-justified c = publish_justified c.args.subject.now c.args.self.now c.judge_publish.result c.judge_publish.ensures
