-- what is planned is what the publish comes to, and the verdict on it has its reason
use Rattle.std.proofs.Common.{◌≡◌, ◌∙◌, ◌==◌, List, [], All, None, Ok, ap, sym, refl, subst}
use Rattle.std.proofs.lemmas.Bool.{eqb-true}
use Rattle.std.proofs.lemmas.List.Elements.{All-nil}
use Rattle.std.specs.Prelude.{IfSome}
use Rattle.subjects.specs.Subject.{Token}
use Rattle.events.specs.declared.answer.Addressed.{Addressed}
use Rattle.receivers.specs.cache.Cached.{IsAllowed}
use Rattle.policy_ready.specs.imports.Across.{views}
use Rattle.policy_ready.specs.declared.imports.view.ViewItem.{ViewItem}
use Rattle.world_sessions.specs.deliveries.Sessions.{session_of}
use Rattle.world_sessions.specs.declared.deliveries.session.Session.{Session}
use Rattle.receivers.proofs.views.Tests.{find-passes}
use Rattle.world_views.specs.Requests.{responses_on}
use Rattle.world_views.specs.Viewing.{Tables, addressing, publication, tables_at}
use Rattle.world_routing.proofs.Alone.{lists_allow}
use Rattle.world_routing.proofs.Remembered.{named}
use Rattle.world_views.proofs.Addressed.{unsaid_after}
use Rattle.world_routing.specs.Granting.{verdict_on}
use Rattle.world_routing.proofs.Publishing.{planned_publish, planned_told, planned_unmapped, publish_reason}
use Rattle.world_routing.proofs.planning.plan_uncached.Goals as goal

pub on_publish-requires-clause-user : goal.on_publish-requires-clause-user
on_publish-requires-clause-user c = named c.args.ready.now c.args.sessions.now c.args.publish.conn c.in-Some.session.now c.requires.users (sym c.in-Some.ensures)

pub address_all-requires-clause-publisher : goal.address_all-requires-clause-publisher
address_all-requires-clause-publisher c =
    let zs = c.args.sessions.now in
    let z = c.in-Some.session.now in
    ap (session_of zs) (eqb-true z.conn c.args.publish.conn (find-passes (λ (y : Session). y.conn == c.args.publish.conn) zs z (sym c.in-Some.ensures))) ∙ sym c.in-Some.ensures

pub address_all-requires-clause-allowed : goal.address_all-requires-clause-allowed
address_all-requires-clause-allowed c =
    let z = c.in-Some.session.now in
    let s : List Token = c.subject-subject.result in
    subst (λ (s : List Token). IfSome c.allowed_by.result (IsAllowed z.user s)) c.subject-subject.ensures
    (lists_allow c.allowed_by.result c.in-Allowed.by c.args.publish.now z s s c.allowed_by.ensures refl c.in-Allowed.ensures.verdict c.on_publish.ensures.justified
    (c.is_mapped.ensures c.if-is_mapped.false))

pub plan_told-requires : goal.plan_told-requires
plan_told-requires c = λ none.
    let reply : Addressed → Type 0 = λ a. a.delivery.message.reply ≡ None in
    let z = c.in-Some.session.now in
    let m = c.args.publish.message.now in
    let t : Tables = tables_at c.args.ready.now c.args.publish.now c.args.sessions.now c.args.subscriptions.now c.args.routes.now.exporters in
    let vs : List ViewItem = views t.policy z.user.account m.subject (responses_on t.routes z.user.account m.subject) in
    subst (All reply) (sym c.in_ok-told.ensures.addressed.all)
    (unsaid_after t (publication z m c.args.publish.word) (addressing [] []) vs none (All-nil reply))

pub returns-then-is_mapped-clause-planned : goal.returns-then-is_mapped-clause-planned
returns-then-is_mapped-clause-planned c = λ w of.
    let conn = c.args.publish.conn in
    let z = c.in-Some.session.now in
    let found = c.in-Some.ensures ∙ ap (λ (x : Tables). session_of x.sessions conn) (sym of) in
    planned_publish conn z w found (Ok c.in_ok-plan.plan) c.in-Allowed.by c.args.publish.message.now c.args.publish.word c.subject-subject.result c.subject-subject.ensures
    (c.in-Allowed.ensures.verdict ∙ ap (λ (x : Tables). verdict_on x.now z c.subject-subject.result) (sym of))
    (c.in_ok-plan.ensures.planned w of)

pub returns-then-is_mapped-clause-reason : goal.returns-then-is_mapped-clause-reason
returns-then-is_mapped-clause-reason c = publish_reason _ _ _ _ _ c.in-Some.ensures c.subject-subject.ensures refl c.on_publish.ensures.justified

pub returns-clause-planned : goal.returns-clause-planned
returns-clause-planned c = λ w of.
    let conn = c.args.publish.conn in
    let m = c.args.publish.message.now in
    let word = c.args.publish.word in
    let zs = c.args.sessions.now in
    let z = c.in-Some.session.now in
    let by = c.in-Allowed.by in
    let t : Tables = tables_at c.args.ready.now c.args.publish.now zs c.args.subscriptions.now c.args.routes.now.exporters in
    let found = c.in-Some.ensures ∙ ap (λ (x : Tables). session_of x.sessions conn) (sym of) in
    let plan = Ok c.in_ok-plan-2.plan in
    planned_publish conn z w found plan by m word c.subject-subject.result c.subject-subject.ensures (c.in-Allowed.ensures.verdict ∙ ap (λ (x : Tables). verdict_on x.now z c.subject-subject.result) (sym of))
    (planned_unmapped conn z w found plan by m word (c.is_mapped.ensures c.if-is_mapped.false)
    (planned_told t conn m word z m c.in-Some.ensures by c.prove_invariant.ensures.apart c.prove_invariant.ensures.going
    _ c.in_ok-answered.ensures _ c.in_ok-told.ensures.addressed.reports c.in_ok-told.ensures.addressed.changed c.in_ok-told.ensures.addressed.noted
    _ c.in_ok-told.ensures.addressed.all _ c.in_ok-plan-2.ensures.planned w of))

pub returns-clause-reason : goal.returns-clause-reason
returns-clause-reason c = publish_reason _ _ _ _ _ c.in-Some.ensures c.subject-subject.ensures refl c.on_publish.ensures.justified
