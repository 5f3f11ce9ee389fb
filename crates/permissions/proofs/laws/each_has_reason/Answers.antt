use Rattle.permissions.proofs.Reason.{each_has_reason}
use Rattle.permissions.proofs.laws.each_has_reason.Goals as goal

pub returns : goal.returns
returns c = each_has_reason c.args.pattern.now c.tokens.ensures.grammar
