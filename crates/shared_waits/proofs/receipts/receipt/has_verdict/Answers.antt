-- the user's verdict on what a SUB asks for
use Rattle.std.proofs.Common.{◌∙◌, List, ap, sym}
use Rattle.subjects.specs.Subject.{Token}
use Rattle.permissions.specs.Verdicts.{subscribe_verdict}
use Rattle.permissions.specs.declared.verdict.Verdict.{Verdict}
use Rattle.events.specs.declared.event.Command.{Command}
use Rattle.shared_waits.specs.receipts.Receipts.{same_verdict, has_verdict}
use Rattle.shared_waits.proofs.receipts.receipt.has_verdict.Goals as goal

pub returns-in-Sub : goal.returns-in-Sub
returns-in-Sub c =
    c.is_same.ensures
    ∙ ap (λ (x : Verdict). same_verdict x c.args.verdict) (c.on_subscription.ensures ∙ ap (λ (p : List Token). subscribe_verdict c.args.user.now.rules p c.in-Sub.queue) c.get.ensures)
    ∙ ap (λ (w : Command). has_verdict w c.args.verdict c.args.user.now) (sym c.in-Sub.is)
