-- what is said of the text
use Rattle.std.proofs.Common.{◌∙◌, sym, ap}
use Rattle.script.specs.Play.{Played}
use Rattle.tasks.proofs.Checks.{parted_is}
use Rattle.tasks.proofs.parting.no_sets_of_large.Goals as goal

pub returns-clause-text : goal.returns-clause-text
returns-clause-text c = λ text long. c.in_ok-report.ensures.text text long ∙ sym (ap (λ (p : Played). p.text) (parted_is text long))

pub returns-clause-status : goal.returns-clause-status
returns-clause-status c = λ text long. c.in_ok-report.ensures.status text long ∙ sym (ap (λ (p : Played). p.status) (parted_is text long))
