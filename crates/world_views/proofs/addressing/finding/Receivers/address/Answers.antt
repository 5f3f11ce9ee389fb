-- the deliveries are those to whom is cached, or to whom it was found to be for
use Rattle.std.proofs.Common.{List, sym, subst}
use Rattle.subjects.specs.Subject.{Token}
use Rattle.world_rows.specs.declared.subscription.Subscription.{Subscription}
use Rattle.receivers.specs.cache.Cached.{IsCurrent, cached_others}
use Rattle.receivers.specs.views.CachedViews.{KnowsOthers}
use Rattle.receivers.specs.declared.cache.cache.ReceiverCache.{ReceiverCache}
use Rattle.world_views.proofs.addressing.finding.Receivers.address.Goals as goal

pub returns-then-branch-clause-all : goal.returns-then-branch-clause-all
returns-then-branch-clause-all c =
    c.in_ok-address.ensures.tells c.if-branch.true c.args.rows.now c.args.sessions.now c.args.subscriptions.now c.args.sending.publisher.now c.requires.cached c.requires.publisher

pub returns-in_err-address-clause-cached : goal.returns-in_err-address-clause-cached
returns-in_err-address-clause-cached c = c.address.ensures.cached c.args.rows.now c.args.sessions.now c.args.subscriptions.now c.requires.cached

pub returns-then-branch-clause-cached : goal.returns-then-branch-clause-cached
returns-then-branch-clause-cached c = c.address.ensures.cached c.args.rows.now c.args.sessions.now c.args.subscriptions.now c.requires.cached

pub fill_cache-requires-clause-cached : goal.fill_cache-requires-clause-cached
fill_cache-requires-clause-cached c =
    subst (λ (subs : List Subscription). IsCurrent c.args.rows.now c.args.sessions.now subs c.address.new.self) (sym c.remember.ensures)
    (c.address.ensures.cached c.args.rows.now c.args.sessions.now c.args.subscriptions.now c.requires.cached)

pub fill_cache-requires-clause-others : goal.fill_cache-requires-clause-others
fill_cache-requires-clause-others c =
    let z = c.args.sending.publisher.now in
    subst (λ (subs : List Subscription). KnowsOthers (cached_others c.address.new.self) c.args.rows.now c.args.sessions.now subs z c.subject-subject.result) (sym c.remember.ensures)
    (subst (λ (s : List Token). KnowsOthers (cached_others c.address.new.self) c.args.rows.now c.args.sessions.now c.args.subscriptions.now z s) (sym c.subject-subject.ensures)
    (c.address.ensures.others c.args.rows.now c.args.sessions.now c.args.subscriptions.now z c.requires.cached c.requires.publisher))

pub returns-in_err-address_found-clause-cached : goal.returns-in_err-address_found-clause-cached
returns-in_err-address_found-clause-cached c =
    subst (λ (k : ReceiverCache). IsCurrent c.args.rows.now c.args.sessions.now c.args.subscriptions.now k) (sym c.address_found.ensures.cached)
    (subst (λ (subs : List Subscription). IsCurrent c.args.rows.now c.args.sessions.now subs c.fill_cache.new.self.cache) c.remember.ensures c.fill_cache.ensures.cached)

pub returns-clause-cached : goal.returns-clause-cached
returns-clause-cached c =
    subst (λ (k : ReceiverCache). IsCurrent c.args.rows.now c.args.sessions.now c.args.subscriptions.now k) (sym c.address_found.ensures.cached)
    (subst (λ (subs : List Subscription). IsCurrent c.args.rows.now c.args.sessions.now subs c.fill_cache.new.self.cache) c.remember.ensures c.fill_cache.ensures.cached)
