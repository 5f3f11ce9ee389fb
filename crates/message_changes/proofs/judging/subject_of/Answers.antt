use Rattle.std.proofs.Common.{◌∙◌}
use Rattle.message_changes.proofs.Questions.{subject_as}
use Rattle.message_changes.proofs.judging.subject_of.Goals as goal

pub returns : goal.returns
returns c = c.of.ensures.tokens ∙ subject_as c.args.text.now
