use Rattle.std.proofs.Common.{◌∙◌, ap}
use Rattle.std.specs.Prelude.{is_some}
use Rattle.pattern_sets.proofs.Counts.{is_some_subject}
use Rattle.pattern_sets.proofs.sets.is_subject.Goals as goal

pub returns : goal.returns
returns c = c.is_some.ensures ∙ ap is_some c.of-subject.ensures.tokens ∙ is_some_subject c.args.text.now
