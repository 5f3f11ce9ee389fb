-- the cache stays current where none of those that have counted the message has ended
use Rattle.std.proofs.Common.{◌≡◌, ℕ, List, length, ap, sym, subst, inl, inr, arith}
use Rattle.world_sessions.specs.declared.deliveries.session.Session.{Session}
use Rattle.world_subscriptions.specs.Counting.{entered_ids, in_turn}
use Rattle.world_rows.specs.declared.subscription.Subscription.{Subscription}
use Rattle.receivers.specs.cache.Cached.{IsCurrent}
use Rattle.receivers.specs.declared.cache.cache.ReceiverCache.{ReceiverCache}
use Rattle.receivers.proofs.cache.Stays.{AreSeated, current_in_turn}
use Rattle.receivers.proofs.cache.Told.{empty_current}
use Rattle.world_routing.proofs.Delivering.{seated_handed}
use Rattle.world_routing.proofs.carrying.carry_publish.Goals as goal

pub returns-clause-cached : goal.returns-clause-cached
returns-clause-cached c = λ rows before.
    let zs : List Session = c.args.sessions.now in
    let after : List Session = c.hand_over.new.sessions in
    let subs : List Subscription = c.args.subscriptions.now in
    let left : List Subscription = c.count.new.self in
    let ids : List ℕ = entered_ids c.as_slice.result.now c.args.items.now in
    let are : left ≡ in_turn ids subs = c.count.ensures.turns in
    let seated : AreSeated zs after = subst (AreSeated zs) (sym c.hand_over.ensures) (seated_handed c.args.now c.args.deliveries.answered c.into_vec-all.result.items zs) in
    let current : IsCurrent rows after left c.clear_if_fewer.new.receivers.cache = elim c.clear_if_fewer.ensures [
      | inl empty ↦ empty_current c.clear_if_fewer.new.receivers.cache rows after left empty
      | inr kept ↦ subst (λ (k : ReceiverCache). IsCurrent rows after left k) (sym kept.0)
          (subst (λ (ss : List Subscription). IsCurrent rows after ss c.args.receivers.now.cache) (sym are)
          (current_in_turn c.args.receivers.now.cache rows zs after ids subs seated (omega (arith, kept.1, c.len-before.ensures, c.len.ensures, ap length are)) before))
    ] in
    subst (λ (k : ReceiverCache). IsCurrent rows after left k) (sym c.keep_memory.ensures) current
