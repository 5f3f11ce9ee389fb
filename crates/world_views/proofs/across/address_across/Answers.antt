-- the views behind that of the account itself are the others
use Rattle.std.proofs.Common.{◌∙◌, ◌++◌, List, [], All, ℕ, ap, sym, subst}
use Rattle.std.proofs.lemmas.List.Elements.{All-nil}
use Rattle.policy_ready.specs.imports.Views.{rows_of}
use Rattle.policy_ready.specs.declared.imports.rows.ImportRow.{ImportRow}
use Rattle.policy_ready.specs.declared.imports.view.ViewItem.{ViewItem}
use Rattle.service_routes.specs.Routes.{pruned}
use Rattle.receivers.proofs.views.Seen.{tail_of}
use Rattle.world_views.specs.Changing.{opened_each, IsNotedAt}
use Rattle.world_views.specs.Viewing.{Tables, Publication, Addressing, addressing, addressed_after, others_in, publication, reports_after, tables_at}
use Rattle.world_views.specs.declared.changing.Opening.{Opening}
use Rattle.world_views.specs.declared.viewing.Report.{Report}
use Rattle.world_views.proofs.across.address_across.Goals as goal

pub address_each-requires : goal.address_each-requires
address_each-requires c = record { marked = c.requires.marked; noted = subst (λ (os : List Opening). All (IsNotedAt c.args.occasion.now) os) (sym c.nothing_found-found.ensures.openings) (All-nil (IsNotedAt c.args.occasion.now)) }

pub returns-clause-all : goal.returns-clause-all
returns-clause-all c =
    let doc = c.args.occasion.ready.now in
    let account = c.args.occasion.sending.publisher.now.user.account in
    let t : Tables = tables_at doc c.args.occasion.now c.args.occasion.sessions.now c.args.occasion.subscriptions.now c.args.routes.now.exporters in
    let p : Publication = publication c.args.occasion.sending.publisher.now c.args.occasion.sending.message.now c.args.occasion.sending.word in
    let by_openings : List Opening → Addressing = λ os. addressed_after t p (addressing c.args.receivers.now.deliveries.items os) c.as_slice-views.result.now in
    let by_views : List ViewItem → Addressing = λ vs. addressed_after t p (addressing c.args.receivers.now.deliveries.items []) vs in
    ap (λ (a : Addressing). a.deliveries)
    (c.in_ok-address_each.ensures.all
    ∙ ap by_openings c.nothing_found-found.ensures.openings
    ∙ ap by_views
    (c.as_slice-views.ensures.value ∙ tail_of c.in_ok-others.ensures
    ∙ ap (λ (rows : List ImportRow). others_in rows c.as_slice-account.result.now c.args.subject.now) c.rows.ensures
    ∙ ap (λ (a : List ℕ). others_in (rows_of doc) a c.args.subject.now) c.as_slice-account.ensures))

pub returns-clause-reports : goal.returns-clause-reports
returns-clause-reports c =
    let doc = c.args.occasion.ready.now in
    let account = c.args.occasion.sending.publisher.now.user.account in
    let t : Tables = tables_at doc c.args.occasion.now c.args.occasion.sessions.now c.args.occasion.subscriptions.now c.args.routes.now.exporters in
    let p : Publication = publication c.args.occasion.sending.publisher.now c.args.occasion.sending.message.now c.args.occasion.sending.word in
    let by_openings : List Opening → List Report = λ os. reports_after t p (addressing c.args.receivers.now.deliveries.items os) c.as_slice-views.result.now in
    let by_views : List ViewItem → List Report = λ vs. reports_after t p (addressing c.args.receivers.now.deliveries.items []) vs in
    c.in_ok-told.ensures.reports
    ∙ c.in_ok-address_each.ensures.reports
    ∙ ap (λ (rs : List Report). rs ++ by_openings c.nothing_found-found.result.openings.items) c.nothing_found-found.ensures.reports
    ∙ ap by_openings c.nothing_found-found.ensures.openings
    ∙ ap by_views
    (c.as_slice-views.ensures.value ∙ tail_of c.in_ok-others.ensures
    ∙ ap (λ (rows : List ImportRow). others_in rows c.as_slice-account.result.now c.args.subject.now) c.rows.ensures
    ∙ ap (λ (a : List ℕ). others_in (rows_of doc) a c.args.subject.now) c.as_slice-account.ensures)

pub returns-clause-opened : goal.returns-clause-opened
returns-clause-opened c =
    let doc = c.args.occasion.ready.now in
    let account = c.args.occasion.sending.publisher.now.user.account in
    let seen = pruned c.args.occasion.now c.args.routes.now.exporters in
    let t : Tables = tables_at doc c.args.occasion.now c.args.occasion.sessions.now c.args.occasion.subscriptions.now c.args.routes.now.exporters in
    let p : Publication = publication c.args.occasion.sending.publisher.now c.args.occasion.sending.message.now c.args.occasion.sending.word in
    let by_openings : List Opening → Addressing = λ os. addressed_after t p (addressing c.args.receivers.now.deliveries.items os) c.as_slice-views.result.now in
    let by_views : List ViewItem → Addressing = λ vs. addressed_after t p (addressing c.args.receivers.now.deliveries.items []) vs in
    c.in_ok-told.ensures.opened seen
    ∙ ap (λ (a : Addressing). opened_each a.openings seen)
    (c.in_ok-address_each.ensures.all
    ∙ ap by_openings c.nothing_found-found.ensures.openings
    ∙ ap by_views
    (c.as_slice-views.ensures.value ∙ tail_of c.in_ok-others.ensures
    ∙ ap (λ (rows : List ImportRow). others_in rows c.as_slice-account.result.now c.args.subject.now) c.rows.ensures
    ∙ ap (λ (a : List ℕ). others_in (rows_of doc) a c.args.subject.now) c.as_slice-account.ensures))

pub returns-clause-noted : goal.returns-clause-noted
returns-clause-noted c = c.in_ok-told.ensures.noted c.args.occasion.now c.in_ok-address_each.ensures.noted
