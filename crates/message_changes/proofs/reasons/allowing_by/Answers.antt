use Rattle.std.proofs.Common.{◌≡◌, ◌∙◌, ap, ℕ}
use Rattle.message_changes.specs.Reasons.{first_of, is_for_queues, reach_of, second_of, view_in, View}
use Rattle.message_changes.specs.declared.form.Form.TheVariants.{Whole}
use Rattle.message_changes.proofs.reasons.allowing_by.Goals as goal

pub returns : goal.returns
returns c =
    let kind = c.args.rules.kind in
    let any = c.args.rules.any.now in
    let one = first_of c.args.rules in
    let other = second_of c.args.rules in
    let reach : c.reach_of-reach.result ≡ reach_of kind any one other (view_in (Whole kind) any c.args.entry.now) (is_for_queues kind c.args.entry.now) =
    c.reach_of-reach.ensures kind any one other c.requires ∙ ap (λ (v : View). reach_of kind any one other v c.is_for_queues-is_queued.result) c.reason-reason.ensures
    ∙ ap (reach_of kind any one other (view_in (Whole kind) any c.args.entry.now)) c.is_for_queues-is_queued.ensures in
    ap (λ (v : View). (v, c.reach_of-reach.result)) c.reason-reason.ensures ∙ ap (λ (n : ℕ). (view_in (Whole kind) any c.args.entry.now, n)) reach
