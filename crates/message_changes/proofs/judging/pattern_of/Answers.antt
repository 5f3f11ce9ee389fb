use Rattle.std.proofs.Common.{◌∙◌}
use Rattle.message_changes.proofs.Questions.{pattern_as}
use Rattle.message_changes.proofs.judging.pattern_of.Goals as goal

pub returns : goal.returns
returns c = c.in_ok-pattern.ensures ∙ pattern_as c.args.text.now
