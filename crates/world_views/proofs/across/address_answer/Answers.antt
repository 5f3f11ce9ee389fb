-- what is seen of a response, where the account has a living route of the subject, and where it has none
use Rattle.std.proofs.Common.{◌≡◌, ◌∙◌, List, [], Some, None, ap, sym}
use Rattle.subjects.specs.Subject.{Token}
use Rattle.events.specs.declared.answer.Addressed.{Addressed}
use Rattle.policy_ready.specs.declared.imports.view.ViewItem.{ViewItem}
use Rattle.service_exporter.specs.Routes.{Exporter, route_on}
use Rattle.service_exporter.specs.declared.route.Route.{Route}
use Rattle.service_routes.specs.Routes.{Name, exporter_of, pruned}
use Rattle.receivers.specs.views.CachedViews.{others_with}
use Rattle.world_views.specs.Viewing.{Tables, Publication, addressing, addressed_after, publication, tables_at}
use Rattle.world_views.proofs.InTurn.{spent_none}
use Rattle.world_views.proofs.Seeing.{no_response, one_response, others_none, response_addressed}
use Rattle.world_views.proofs.across.address_answer.Goals as goal

pub returns-in-None-clause-all : goal.returns-in-None-clause-all
returns-in-None-clause-all c =
    let account : Name = c.args.occasion.sending.publisher.now.user.account in
    let s : List Token = c.args.subject.now in
    let seen : List (Name × Exporter) = pruned c.args.occasion.now c.args.routes.now.exporters in
    let t : Tables = tables_at c.args.occasion.ready.now c.args.occasion.now c.args.occasion.sessions.now c.args.occasion.subscriptions.now c.args.routes.now.exporters in
    let p : Publication = publication c.args.occasion.sending.publisher.now c.args.occasion.sending.message.now c.args.occasion.sending.word in
    let none : route_on s (exporter_of account seen).routes ≡ None = sym c.in-None.ensures in
    ap (λ (vs : List ViewItem). (addressed_after t p (addressing c.args.receivers.now.deliveries.items []) vs).deliveries)
    (sym (ap (λ (rs : List ViewItem). others_with [] rs account s) (no_response seen account s none) ∙ others_none account s))

pub returns-in-None-clause-spent : goal.returns-in-None-clause-spent
returns-in-None-clause-spent c =
    let account : Name = c.args.occasion.sending.publisher.now.user.account in
    let s : List Token = c.args.subject.now in
    let seen : List (Name × Exporter) = pruned c.args.occasion.now c.args.routes.now.exporters in
    sym (spent_none account s seen (sym c.in-None.ensures))

pub returns-in_ok-new-in-Some-clause-all : goal.returns-in_ok-new-in-Some-clause-all
returns-in_ok-new-in-Some-clause-all c =
    let account : Name = c.args.occasion.sending.publisher.now.user.account in
    let s : List Token = c.args.subject.now in
    let seen : List (Name × Exporter) = pruned c.args.occasion.now c.args.routes.now.exporters in
    let t : Tables = tables_at c.args.occasion.ready.now c.args.occasion.now c.args.occasion.sessions.now c.args.occasion.subscriptions.now c.args.routes.now.exporters in
    let p : Publication = publication c.args.occasion.sending.publisher.now c.args.occasion.sending.message.now c.args.occasion.sending.word in
    let ds : List Addressed = c.args.receivers.now.deliveries.items in
    let r : Route = c.in-Some.route.now in
    let found : Some r ≡ route_on s (exporter_of account seen).routes = c.in-Some.ensures in
    c.in_ok-address_unless_own-in-Some.ensures.all
    ∙ sym (response_addressed t p ds s r)
    ∙ ap (λ (rs : List ViewItem). (addressed_after t p (addressing ds []) (others_with [] rs account s)).deliveries) (sym (one_response seen account s r found))
