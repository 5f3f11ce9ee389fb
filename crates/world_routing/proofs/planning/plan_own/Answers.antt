-- a message that is seen under its own subject comes to what is planned
use Rattle.std.proofs.Common.{◌≡◌, ◌∙◌, ◌==◌, List, [], All, None, ap, sym, subst}
use Rattle.std.proofs.lemmas.Bool.{eqb-true}
use Rattle.std.proofs.lemmas.List.Elements.{All-nil}
use Rattle.events.specs.declared.answer.Addressed.{Addressed}
use Rattle.policy_ready.specs.imports.Across.{views}
use Rattle.policy_ready.specs.declared.imports.view.ViewItem.{ViewItem}
use Rattle.world_sessions.specs.deliveries.Sessions.{session_of}
use Rattle.world_sessions.specs.declared.deliveries.session.Session.{Session}
use Rattle.receivers.proofs.views.Tests.{find-passes}
use Rattle.world_views.specs.Requests.{responses_on}
use Rattle.world_views.specs.Viewing.{Tables, addressing, publication, tables_at}
use Rattle.world_views.proofs.Addressed.{unsaid_after}
use Rattle.world_routing.proofs.Publishing.{planned_told}
use Rattle.world_routing.proofs.planning.plan_own.Goals as goal

pub address_all-requires-clause-publisher : goal.address_all-requires-clause-publisher
address_all-requires-clause-publisher c =
    let zs = c.args.sessions.now in
    let z = c.in-Some.session.now in
    ap (session_of zs) (eqb-true z.conn c.args.permitted.publish.conn (find-passes (λ (y : Session). y.conn == c.args.permitted.publish.conn) zs z (sym c.in-Some.ensures))) ∙ sym c.in-Some.ensures

pub plan_told-requires : goal.plan_told-requires
plan_told-requires c = λ none.
    let reply : Addressed → Type 0 = λ a. a.delivery.message.reply ≡ None in
    let z = c.in-Some.session.now in
    let m = c.args.permitted.publish.message.now in
    let t : Tables = tables_at c.args.ready.now c.args.permitted.publish.now c.args.sessions.now c.args.subscriptions.now c.args.routes.now.exporters in
    let vs : List ViewItem = views t.policy z.user.account m.subject (responses_on t.routes z.user.account m.subject) in
    subst (All reply) (sym c.in_ok-address_all-in-Some.ensures.addressed.all)
    (unsaid_after t (publication z m c.args.permitted.publish.word) (addressing [] []) vs none (All-nil reply))

pub returns-clause-planned : goal.returns-clause-planned
returns-clause-planned c = λ w of.
    let m = c.args.permitted.publish.message.now in
    let z = c.in-Some.session.now in
    let t : Tables = tables_at c.args.ready.now c.args.permitted.publish.now c.args.sessions.now c.args.subscriptions.now c.args.routes.now.exporters in
    planned_told t c.args.permitted.publish.conn m c.args.permitted.publish.word z m c.in-Some.ensures c.args.permitted.by c.prove_invariant.ensures.apart c.prove_invariant.ensures.going
    _ c.in_ok-answered_by-in-Some.ensures _ c.in_ok-address_all-in-Some.ensures.addressed.reports c.in_ok-address_all-in-Some.ensures.addressed.changed c.in_ok-address_all-in-Some.ensures.addressed.noted
    _ c.in_ok-address_all-in-Some.ensures.addressed.all _ c.in_ok-plan.ensures.planned w of
