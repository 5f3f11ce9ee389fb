-- what is planned is what the publish comes to: as it is known, or by the verdict on it
use Rattle.std.proofs.Common.{List, Option, subst}
use Rattle.std.specs.Prelude.{IfSome}
use Rattle.permissions.specs.declared.verdict.By.{By}
use Rattle.policy_ready.specs.imports.Views.{rows_of}
use Rattle.policy_ready.specs.declared.imports.rows.ImportRow.{ImportRow}
use Rattle.world_sessions.specs.declared.deliveries.session.Session.{Session}
use Rattle.world_rows.specs.declared.subscription.Subscription.{Subscription}
use Rattle.receivers.specs.cache.Cached.{IsAloneAt, IsCurrent}
use Rattle.world_routing.proofs.Alone.{alone_comes, alone_unsaid}
use Rattle.world_routing.proofs.planning.plan_publish.Goals as goal

pub plan_alone-requires : goal.plan_alone-requires
plan_alone-requires c = λ none.
    let zs = c.args.sessions.now in
    let subs = c.args.subscriptions.now in
    let m = c.args.publish.message.now in
    let at = subst (λ (o : Option By). IfSome o (λ allowed. (rows : List ImportRow) (zs : List Session) (subs : List Subscription) →
    IsCurrent rows zs subs c.args.caches.now.receivers.cache → IsAloneAt rows zs subs c.args.publish.conn m c.args.publish.word allowed c.address_alone.new.self.deliveries.items))
    c.in-Some.is c.in_ok-by.ensures.tells (rows_of c.args.ready.now) zs subs c.requires.cached in
    alone_unsaid c.args.ready.now c.args.publish.now zs subs c.args.routes.now.exporters c.prove_invariant.ensures.going c.args.publish.conn m c.args.publish.word _ _ at none

pub returns-in-Some-clause-planned : goal.returns-in-Some-clause-planned
returns-in-Some-clause-planned c = λ w of.
    let zs = c.args.sessions.now in
    let subs = c.args.subscriptions.now in
    let m = c.args.publish.message.now in
    let at = subst (λ (o : Option By). IfSome o (λ allowed. (rows : List ImportRow) (zs : List Session) (subs : List Subscription) →
    IsCurrent rows zs subs c.args.caches.now.receivers.cache → IsAloneAt rows zs subs c.args.publish.conn m c.args.publish.word allowed c.address_alone.new.self.deliveries.items))
    c.in-Some.is c.in_ok-by.ensures.tells (rows_of c.args.ready.now) zs subs c.requires.cached in
    alone_comes c.args.ready.now c.args.publish.now zs subs c.args.routes.now.exporters c.prove_invariant.ensures.going c.args.publish.conn m c.args.publish.word _ _ at
    c.prove_invariant.ensures.apart _ c.plan_alone.ensures.planned c.plan_alone.ensures.refused w of
