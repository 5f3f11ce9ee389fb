-- those that are found are those that may be sent it, and of each queue group the one that its word chooses
use Rattle.std.proofs.Common.{◌∙◌, ℕ, Bool, List, map, filter, ap}
use Rattle.subjects.specs.Subject.{Token}
use Rattle.events.specs.Messages.{Message}
use Rattle.world_subscriptions.specs.Subscriptions.{has_subject, having}
use Rattle.world_subscriptions.specs.Addressing.{addressed_to}
use Rattle.world_rows.specs.declared.subscription.Subscription.{Subscription}
use Rattle.world_subscriptions.specs.groups.Served.{served}
use Rattle.receivers.specs.views.Open.{is_open}
use Rattle.receivers.specs.views.Marked.{is_marked_open}
use Rattle.receivers.proofs.views.Marked.{open_marked}
use Rattle.receivers.proofs.views.Tests.{both}
use Rattle.world_views.proofs.addressing.finding.Receivers.address_found.Goals as goal

pub returns-clause-all : goal.returns-clause-all
returns-clause-all c =
    let zs = c.args.search.sessions.now in
    let subs = c.args.search.subscriptions.now in
    let z = c.args.search.publisher.now in
    let m : Message = c.args.message.now in
    let passes : List Token → Subscription → Bool = λ s. is_marked_open c.args.search.marks.now zs z s in
    c.in_ok-address_served.ensures
    ∙ ap (λ (s : List Token). map (addressed_to m) (served c.args.word (filter (passes s) (having c.as_slice.result.now m.subject subs)))) c.subject-subject.ensures
    ∙ ap (λ (a : List ℕ). map (addressed_to m) (served c.args.word (filter (passes m.subject) (having a m.subject subs)))) c.as_slice.ensures
    ∙ ap (λ (xs : List Subscription). map (addressed_to m) (served c.args.word xs)) (open_marked c.args.search.marks.now zs z z.user.account m.subject (λ b sub. b) subs c.requires.marked ∙ both (is_open zs z m.subject) (has_subject z.user.account m.subject) subs)
