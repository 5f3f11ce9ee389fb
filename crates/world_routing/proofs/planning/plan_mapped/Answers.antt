-- a message with a known draw comes to what is planned for its deliveries, and nothing more is told
use Rattle.std.proofs.Common.{◌≡◌, ◌∙◌, List, [], All, None, Some, Ok, ap, sym, refl, subst}
use Rattle.std.proofs.lemmas.List.Elements.{All-nil}
use Rattle.subjects.specs.Subject.{Token}
use Rattle.account_mappings.specs.declared.drawing.Mapped.{Mapped}
use Rattle.events.specs.declared.answer.Addressed.{Addressed}
use Rattle.policy_ready.specs.imports.Across.{views}
use Rattle.policy_ready.specs.imports.Views.{rows_of}
use Rattle.policy_ready.specs.declared.imports.view.ViewItem.{ViewItem}
use Rattle.world_sessions.specs.deliveries.Sessions.{session_of}
use Rattle.receivers.specs.cache.Drawn.{IsSentOn, subject_of}
use Rattle.receivers.specs.views.CachedViews.{under_subject}
use Rattle.world_routing.specs.Publishing.{IsElsewhere}
use Rattle.world_views.specs.Requests.{responses_on}
use Rattle.world_views.specs.Viewing.{Tables, addressing, publication, tables_at}
use Rattle.world_routing.specs.declared.planning.Elsewhere.TheVariants.{Under}
use Rattle.world_routing.proofs.Drawn.{drawn_addressed, drawn_unreported, drawn_unchanged}
use Rattle.world_views.proofs.Addressed.{unsaid_after}
use Rattle.world_routing.proofs.Publishing.{planned_elsewhere, planned_told}
use Rattle.world_routing.proofs.planning.plan_mapped.Goals as goal

pub plan_told-requires : goal.plan_told-requires
plan_told-requires c = λ none.
    let doc = c.args.ready.now in
    let now = c.args.permitted.publish.now in
    let zs = c.args.sessions.now in
    let subs = c.args.subscriptions.now in
    let routes = c.args.routes.now.exporters in
    let z = c.in-Some.session.now in
    let m = c.args.permitted.publish.message.now in
    let word = c.args.permitted.publish.word in
    let all : List Addressed = c.address_drawn.new.self.deliveries.items in
    let sent : IsSentOn (rows_of doc) zs subs z m word all = c.in_ok-address_drawn-in-Some.ensures.tells c.if-not-branch.false (rows_of doc) zs subs z c.requires.cached (sym c.in-Some.ensures) in
    let s : List Token = subject_of sent.drawn in
    let reply : Addressed → Type 0 = λ a. a.delivery.message.reply ≡ None in
    let t : Tables = tables_at doc now zs subs routes in
    let vs : List ViewItem = views doc z.user.account s (responses_on t.routes z.user.account s) in
    subst (All reply) (sym (drawn_addressed doc now zs subs routes z m word all sent))
    (unsaid_after t (publication z (under_subject s m) word) (addressing [] []) vs none (All-nil reply))

pub returns-clause-planned : goal.returns-clause-planned
returns-clause-planned c = λ w of.
    let doc = c.args.ready.now in
    let now = c.args.permitted.publish.now in
    let zs = c.args.sessions.now in
    let subs = c.args.subscriptions.now in
    let routes = c.args.routes.now.exporters in
    let conn = c.args.permitted.publish.conn in
    let by = c.args.permitted.by in
    let z = c.in-Some.session.now in
    let m = c.args.permitted.publish.message.now in
    let word = c.args.permitted.publish.word in
    let all : List Addressed = c.address_drawn.new.self.deliveries.items in
    let sent : IsSentOn (rows_of doc) zs subs z m word all = c.in_ok-address_drawn-in-Some.ensures.tells c.if-not-branch.false (rows_of doc) zs subs z c.requires.cached (sym c.in-Some.ensures) in
    let s : List Token = subject_of sent.drawn in
    let t : Tables = tables_at doc now zs subs routes in
    planned_elsewhere conn z w (c.in-Some.ensures ∙ ap (λ (x : Tables). session_of x.sessions conn) (sym of)) (Ok c.in_ok-plan.plan) by m word (Under s)
    (subst (λ (x : Mapped). IsElsewhere x (Ok (Some (Under s)))) (sym sent.mapped) refl)
    (planned_told t conn (under_subject s m) word z m c.in-Some.ensures by c.prove_invariant.ensures.apart c.prove_invariant.ensures.going
    _ c.in_ok-answered-in-Some.ensures None (drawn_unreported doc now zs subs routes z m word all sent) (drawn_unchanged doc now zs subs routes z m word all sent) tt
    _ (drawn_addressed doc now zs subs routes z m word all sent) _ c.in_ok-plan.ensures.planned w of)
