use Rattle.permissions.proofs.One.{one_subscribe_verdict}
use Rattle.permissions.proofs.laws.one_verdict.Goals as goal

pub returns-clause-subscribe : goal.returns-clause-subscribe
returns-clause-subscribe c = one_subscribe_verdict
