-- the session's user's verdict decides, and it has its reason, whatever is answered
use Rattle.std.proofs.Common.{◌∙◌, Ok, ap, sym, refl}
use Rattle.world_sessions.specs.deliveries.Sessions.{session_of}
use Rattle.world_routing.specs.World.{World}
use Rattle.events.specs.declared.answer.Outcome.TheVariants.{Subscribed, SameSid, SubLimit, Denied}
use Rattle.permissions.specs.declared.verdict.Verdict.TheVariants.{DeniedBy, NoAllow, NoQueueAllow}
use Rattle.world_subscriptions.specs.Subscriptions.{stands, has_all}
use Rattle.world.specs.declared.change.Change.TheVariants.{Nothing, Stand}
use Rattle.world.specs.Changes.{pruned_world}
use Rattle.world.proofs.Reasons.{subscribe_reason}
use Rattle.world.proofs.Subscribing.{decided_by, asked, same_sid, sub_limit, stood}
use Rattle.world.proofs.world.World.subscribe.Goals as goal

pub returns-then-stands-clause-reason : goal.returns-then-stands-clause-reason
returns-then-stands-clause-reason c =
    subscribe_reason _ _ _ _ _ _ (c.in-Some.ensures ∙ ap (λ (w : World). session_of w.sessions c.args.conn) c.self.view_is) c.get.ensures c.on_subscription.ensures.verdict c.on_subscription.ensures.justified

pub returns-then-has_all-clause-reason : goal.returns-then-has_all-clause-reason
returns-then-has_all-clause-reason c =
    subscribe_reason _ _ _ _ _ _ (c.in-Some.ensures ∙ ap (λ (w : World). session_of w.sessions c.args.conn) c.self.view_is) c.get.ensures c.on_subscription.ensures.verdict c.on_subscription.ensures.justified

pub returns-in_ok-change-in-Allowed-clause-reason : goal.returns-in_ok-change-in-Allowed-clause-reason
returns-in_ok-change-in-Allowed-clause-reason c =
    subscribe_reason _ _ _ _ _ _ (c.in-Some.ensures ∙ ap (λ (w : World). session_of w.sessions c.args.conn) c.self.view_is) c.get.ensures c.on_subscription.ensures.verdict c.on_subscription.ensures.justified

pub returns-in-DeniedBy-clause-reason : goal.returns-in-DeniedBy-clause-reason
returns-in-DeniedBy-clause-reason c =
    subscribe_reason _ _ _ _ _ _ (c.in-Some.ensures ∙ ap (λ (w : World). session_of w.sessions c.args.conn) c.self.view_is) c.get.ensures c.on_subscription.ensures.verdict c.on_subscription.ensures.justified

pub returns-in-NoAllow-clause-reason : goal.returns-in-NoAllow-clause-reason
returns-in-NoAllow-clause-reason c =
    subscribe_reason _ _ _ _ _ _ (c.in-Some.ensures ∙ ap (λ (w : World). session_of w.sessions c.args.conn) c.self.view_is) c.get.ensures c.on_subscription.ensures.verdict c.on_subscription.ensures.justified

pub returns-in-NoQueueAllow-clause-reason : goal.returns-in-NoQueueAllow-clause-reason
returns-in-NoQueueAllow-clause-reason c =
    subscribe_reason _ _ _ _ _ _ (c.in-Some.ensures ∙ ap (λ (w : World). session_of w.sessions c.args.conn) c.self.view_is) c.get.ensures c.on_subscription.ensures.verdict c.on_subscription.ensures.justified

pub returns-then-stands-clause-decided : goal.returns-then-stands-clause-decided
returns-then-stands-clause-decided c =
    decided_by (pruned_world c.args.self.now) _ c.unchanged.result SameSid Nothing c.unchanged.ensures.outcome c.unchanged.ensures.change
    (asked (pruned_world c.args.self.now) c.args.conn _ c.in-Some.session.now _ c.args.subject.now c.args.queue.now c.args.sid.now _ (c.in-Some.ensures ∙ ap (λ (w : World). session_of w.sessions c.args.conn) c.self.view_is) c.get.ensures c.in-Allowed.ensures.verdict
    ∙ ap (λ r. Ok r) (same_sid (pruned_world c.args.self.now) c.args.conn c.in-Some.session.now.user.account c.args.subject.now c.args.queue.now c.args.sid.now c.in-Allowed.field-0 (sym (c.stands.ensures ∙ ap (λ (w : World). stands w.subscriptions c.args.conn c.args.sid.now) c.self.view_is) ∙ c.if-stands.true))) tt

pub returns-then-has_all-clause-decided : goal.returns-then-has_all-clause-decided
returns-then-has_all-clause-decided c =
    decided_by (pruned_world c.args.self.now) _ c.unchanged-then-has_all.result SubLimit Nothing c.unchanged-then-has_all.ensures.outcome c.unchanged-then-has_all.ensures.change
    (asked (pruned_world c.args.self.now) c.args.conn _ c.in-Some.session.now _ c.args.subject.now c.args.queue.now c.args.sid.now _ (c.in-Some.ensures ∙ ap (λ (w : World). session_of w.sessions c.args.conn) c.self.view_is) c.get.ensures c.in-Allowed.ensures.verdict
    ∙ ap (λ r. Ok r) (sub_limit (pruned_world c.args.self.now) c.args.conn c.in-Some.session.now.user.account c.args.subject.now c.args.queue.now c.args.sid.now c.in-Allowed.field-0 (sym (c.stands.ensures ∙ ap (λ (w : World). stands w.subscriptions c.args.conn c.args.sid.now) c.self.view_is) ∙ c.if-stands.false) (sym (c.has_all.ensures ∙ ap (λ (w : World). has_all w.subscriptions c.args.conn) c.self.view_is) ∙ c.if-has_all.true))) tt

pub returns-in_ok-change-in-Allowed-clause-decided : goal.returns-in_ok-change-in-Allowed-clause-decided
returns-in_ok-change-in-Allowed-clause-decided c =
    let free = (sym (c.stands.ensures ∙ ap (λ (w : World). stands w.subscriptions c.args.conn c.args.sid.now) c.self.view_is) ∙ c.if-stands.false) in
    decided_by (pruned_world c.args.self.now) _ (record { outcome = Subscribed; change = c.in_ok-change-in-Allowed.change }) Subscribed (Stand (record { conn = c.args.conn; account = c.in-Some.session.now.user.account; subject = c.args.subject.now; queue = c.args.queue.now; sid = c.args.sid.now })) refl c.in_ok-change-in-Allowed.ensures
    (asked (pruned_world c.args.self.now) c.args.conn _ c.in-Some.session.now _ c.args.subject.now c.args.queue.now c.args.sid.now _ (c.in-Some.ensures ∙ ap (λ (w : World). session_of w.sessions c.args.conn) c.self.view_is) c.get.ensures c.in-Allowed.ensures.verdict
    ∙ ap (λ r. Ok r) (stood (pruned_world c.args.self.now) c.args.conn c.in-Some.session.now.user.account c.args.subject.now c.args.queue.now c.args.sid.now c.in-Allowed.field-0 free (sym (c.has_all.ensures ∙ ap (λ (w : World). has_all w.subscriptions c.args.conn) c.self.view_is) ∙ c.if-has_all.false))) free

pub returns-in-DeniedBy-clause-decided : goal.returns-in-DeniedBy-clause-decided
returns-in-DeniedBy-clause-decided c =
    decided_by (pruned_world c.args.self.now) _ c.unchanged-in-DeniedBy.result (Denied (DeniedBy c.in-DeniedBy.index)) Nothing c.unchanged-in-DeniedBy.ensures.outcome c.unchanged-in-DeniedBy.ensures.change
    (asked (pruned_world c.args.self.now) c.args.conn _ c.in-Some.session.now _ c.args.subject.now c.args.queue.now c.args.sid.now _ (c.in-Some.ensures ∙ ap (λ (w : World). session_of w.sessions c.args.conn) c.self.view_is) c.get.ensures c.in-DeniedBy.ensures.verdict) tt

pub returns-in-NoAllow-clause-decided : goal.returns-in-NoAllow-clause-decided
returns-in-NoAllow-clause-decided c =
    decided_by (pruned_world c.args.self.now) _ c.unchanged-in-NoAllow.result (Denied NoAllow) Nothing c.unchanged-in-NoAllow.ensures.outcome c.unchanged-in-NoAllow.ensures.change
    (asked (pruned_world c.args.self.now) c.args.conn _ c.in-Some.session.now _ c.args.subject.now c.args.queue.now c.args.sid.now _ (c.in-Some.ensures ∙ ap (λ (w : World). session_of w.sessions c.args.conn) c.self.view_is) c.get.ensures c.in-NoAllow.ensures.verdict) tt

pub returns-in-NoQueueAllow-clause-decided : goal.returns-in-NoQueueAllow-clause-decided
returns-in-NoQueueAllow-clause-decided c =
    decided_by (pruned_world c.args.self.now) _ c.unchanged-in-NoQueueAllow.result (Denied (NoQueueAllow c.in-NoQueueAllow.index)) Nothing c.unchanged-in-NoQueueAllow.ensures.outcome c.unchanged-in-NoQueueAllow.ensures.change
    (asked (pruned_world c.args.self.now) c.args.conn _ c.in-Some.session.now _ c.args.subject.now c.args.queue.now c.args.sid.now _ (c.in-Some.ensures ∙ ap (λ (w : World). session_of w.sessions c.args.conn) c.self.view_is) c.get.ensures c.in-NoQueueAllow.ensures.verdict) tt
