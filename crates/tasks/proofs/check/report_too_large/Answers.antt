use Rattle.std.proofs.Common.{◌∙◌, sym, ap}
use Rattle.script.specs.Play.{Played}
use Rattle.tasks.proofs.Checks.{report_is}
use Rattle.tasks.proofs.check.report_too_large.Goals as goal

pub returns-clause-text : goal.returns-clause-text
returns-clause-text c = λ text long. c.in_ok-fault_line.ensures.told ∙ sym (ap (λ (p : Played). p.text) (report_is text long))

pub returns-clause-status : goal.returns-clause-status
returns-clause-status c = λ text long. sym (ap (λ (p : Played). p.status) (report_is text long))
