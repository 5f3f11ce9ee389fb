-- the user's verdict on what a SUB asks for
use Rattle.std.proofs.Common.{◌∙◌, List, ap, sym}
use Rattle.subjects.specs.Subject.{Token}
use Rattle.permissions.specs.Verdicts.{subscribe_verdict, is_allowed}
use Rattle.events.specs.declared.event.Command.{Command}
use Rattle.shared_waits.specs.receipts.Receipts.{may_have}
use Rattle.shared_waits.proofs.receipts.receipt.may_have.Goals as goal

pub returns-in-Sub : goal.returns-in-Sub
returns-in-Sub c =
    c.is_allowed.ensures
    ∙ ap is_allowed (c.on_subscription.ensures ∙ ap (λ (p : List Token). subscribe_verdict c.args.user.now.rules p c.in-Sub.queue) c.get.ensures)
    ∙ ap (λ (w : Command). may_have w c.args.user.now) (sym c.in-Sub.is)
