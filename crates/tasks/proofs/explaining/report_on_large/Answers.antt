-- what is said of the text, whatever is asked
use Rattle.std.proofs.Common.{◌∙◌, sym, ap}
use Rattle.script.specs.Play.{Played}
use Rattle.tasks.proofs.Checks.{reply_is}
use Rattle.tasks.proofs.explaining.report_on_large.Goals as goal

pub returns-clause-text : goal.returns-clause-text
returns-clause-text c = λ question text long. c.in_ok-report.ensures.text text long ∙ sym (ap (λ (p : Played). p.text) (reply_is question text long))

pub returns-clause-status : goal.returns-clause-status
returns-clause-status c = λ question text long. c.in_ok-report.ensures.status text long ∙ sym (ap (λ (p : Played). p.status) (reply_is question text long))
