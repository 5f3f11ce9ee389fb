-- a message that its account's mappings send on under another subject comes to what is planned for its deliveries there
use Rattle.std.proofs.Common.{◌≡◌, List, [], All, None, sym, subst}
use Rattle.std.proofs.lemmas.List.Elements.{All-nil}
use Rattle.events.specs.declared.answer.Addressed.{Addressed}
use Rattle.policy_ready.specs.imports.Across.{views}
use Rattle.policy_ready.specs.declared.imports.view.ViewItem.{ViewItem}
use Rattle.receivers.specs.views.CachedViews.{under_subject}
use Rattle.world_views.specs.Requests.{responses_on}
use Rattle.world_views.specs.Viewing.{Tables, addressing, publication, tables_at}
use Rattle.world_views.proofs.Addressed.{unsaid_after}
use Rattle.world_routing.proofs.Publishing.{planned_told}
use Rattle.world_routing.proofs.planning.plan_under.Goals as goal

pub plan_told-requires : goal.plan_told-requires
plan_told-requires c = λ none.
    let reply : Addressed → Type 0 = λ a. a.delivery.message.reply ≡ None in
    let publish = c.args.sent_on.permitted.publish in
    let z = c.in-Some.session.now in
    let m = publish.message.now in
    let s = c.args.sent_on.subject in
    let t : Tables = tables_at c.args.ready.now publish.now c.args.sessions.now c.args.subscriptions.now c.args.routes.now.exporters in
    let vs : List ViewItem = views t.policy z.user.account s (responses_on t.routes z.user.account s) in
    subst (All reply) (sym c.in_ok-told-in-Some.ensures.addressed.all)
    (unsaid_after t (publication z (under_subject s m) publish.word) (addressing [] []) vs none (All-nil reply))

pub returns-clause-planned : goal.returns-clause-planned
returns-clause-planned c = λ w of.
    let publish = c.args.sent_on.permitted.publish in
    let z = c.in-Some.session.now in
    let m = publish.message.now in
    let s = c.args.sent_on.subject in
    let t : Tables = tables_at c.args.ready.now publish.now c.args.sessions.now c.args.subscriptions.now c.args.routes.now.exporters in
    planned_told t publish.conn (under_subject s m) publish.word z m c.in-Some.ensures c.args.sent_on.permitted.by c.prove_invariant.ensures.apart c.prove_invariant.ensures.going
    _ c.in_ok-answered-in-Some.ensures _ c.in_ok-told-in-Some.ensures.addressed.reports c.in_ok-told-in-Some.ensures.addressed.changed c.in_ok-told-in-Some.ensures.addressed.noted
    _ c.in_ok-told-in-Some.ensures.addressed.all _ c.in_ok-plan.ensures.planned w of
