use Rattle.std.proofs.Common.{◌∙◌, ap, sym}
use Rattle.message_changes.specs.Reasons.{reach_of, reason_view}
use Rattle.message_changes.proofs.refusing.Refusing.reach_of.Goals as goal

pub returns-then-is_queued : goal.returns-then-is_queued
returns-then-is_queued c = λ kind any one other is. c.queued_reach.ensures kind any one other is ∙ ap (reach_of kind any one other (reason_view c.args.reason.now)) (sym c.if-is_queued.true)

pub returns-else-is_queued : goal.returns-else-is_queued
returns-else-is_queued c = λ kind any one other is. c.plain_reach.ensures kind any one other is ∙ ap (reach_of kind any one other (reason_view c.args.reason.now)) (sym c.if-is_queued.false)
