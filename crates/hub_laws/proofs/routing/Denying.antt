-- Where a deny entry has what was asked, no allow entry is looked at.
use Rattle.std.proofs.Common.{◌≡◌, ◌∙◌, ◌&&◌, ◌⊎◌, inl, inr, ℕ, Bool, true, false, List, Option, Some, None, ap, sym, refl, subst}
use Rattle.std.proofs.Math.Path.{subst₂}
use Rattle.std.specs.Prelude.{IsSomeAnd, max, position, nat_eq}
use Rattle.std.specs.Cmp.Lexicographic.{pointwise}
use Rattle.std.specs.List.{list_any, position_or_len}
use Rattle.subjects.specs.Subject.{Token, in_set, covers}
use Rattle.permissions.specs.Lists.{Entry as ListEntry, is_for as is_entry_for}
use Rattle.permissions.specs.Verdicts.{unless_denied, publish_verdict, subscribe_verdict, delivery_verdict, is_allowed}
use Rattle.permissions.specs.declared.verdict.By.{By}
use Rattle.permissions.specs.declared.verdict.By.TheVariants.{All as AllowsAll, Index, Grant}
use Rattle.permissions.specs.declared.verdict.Verdict.{Verdict}
use Rattle.permissions.specs.declared.verdict.Verdict.TheVariants.{Allowed, DeniedBy}
use Rattle.policy_ready.specs.declared.ready.User.{User}
use Rattle.events.specs.Messages.{Message}
use Rattle.events.specs.declared.event.Command.TheVariants.{Pub, Sub}
use Rattle.events.specs.declared.answer.Delivery.{Delivery}
use Rattle.events.specs.declared.answer.Outcome.{Outcome}
use Rattle.events.specs.declared.answer.Outcome.TheVariants.{Connected, AuthViolation, Subscribed, SameSid, SubLimit, Denied, Unsubscribed, Published, Taken, Closed, Reloaded}
use Rattle.world_subscriptions.specs.Subscription.{Subscription}
use Rattle.world.specs.World.{World}
use Rattle.hub.specs.Sound.{user_at, may_subscribe}
use Rattle.hub.specs.Guarantee.{IsEffect, IsUntouched, HasReason, IsAllowance, accepts, allows, may_receive}
use Rattle.hub_laws.specs.routing.Seen.{Routes}
use Rattle.hub_laws.specs.routing.Reach.{live_routes, IsAdmitted, IsDeliveryToAdmitted}
use Rattle.hub_laws.specs.routing.Denied.{IsDeniedByEntry, IsPublishedByGrant, DenyOverridesPublish, DenyOverridesSubscribe, IsUndenied, IsDeliveryToUndenied, DenyOverridesDelivery, DeniedReachesNobody}
use Rattle.hub_laws.proofs.routing.Lists.{back, at_some, position-some}
use Rattle.hub_laws.proofs.routing.Reaching.{weaker, new_weaker, nothing_unadmitted}

-- the verdict where a deny entry passes
is_denied : (test : ListEntry → Bool) (deny : List ListEntry) (otherwise : Verdict) → list_any test deny ≡ true → unless_denied (position test deny) otherwise ≡ DeniedBy (position_or_len test deny)
is_denied test deny otherwise some = ap (λ o. unless_denied o otherwise) (position-some test deny some)

-- ---- publish

publish_denied : (w after : World) (now conn : ℕ) (m : Message) (word : ℕ) (u : User) (outcome : Outcome) → user_at w conn ≡ Some u → list_any (λ (d : ListEntry). in_set d.subject m.subject) u.rules.publish.deny ≡ true →
    IsEffect w now (Pub conn m word) outcome after → HasReason w now (Pub conn m word) outcome → IsDeniedByEntry outcome ⊎ IsPublishedByGrant outcome
publish_denied w after now conn m word u outcome at some = here outcome
  where
    at_entry : ℕ
    at_entry = position_or_len (λ (d : ListEntry). in_set d.subject m.subject) u.rules.publish.deny

    denied : publish_verdict u.rules m.subject ≡ DeniedBy at_entry
    denied = is_denied (λ (d : ListEntry). in_set d.subject m.subject) u.rules.publish.deny _ some

    by_lists : (by : By) → publish_verdict u.rules m.subject ≡ Allowed by → ⊥
    by_lists by allowed = let both : DeniedBy at_entry ≡ Allowed by = sym denied ∙ allowed in absurd (cc)

    here : (o : Outcome) → IsEffect w now (Pub conn m word) o after → HasReason w now (Pub conn m word) o → IsDeniedByEntry o ⊎ IsPublishedByGrant o
    here Connected effect reason = absurd effect
    here AuthViolation effect reason = absurd effect
    here Subscribed effect reason = absurd effect
    here SameSid effect reason = absurd effect
    here SubLimit effect reason = absurd effect
    here (Denied v) effect reason =
        let is = at_some _ (user_at w conn) u at reason in inl (at_entry, ap (λ x. Denied x) (is.0 ∙ denied))
    here Unsubscribed effect reason = absurd effect
    here (Published AllowsAll items) effect reason = absurd (by_lists AllowsAll (at_some (λ (r : User). IsAllowance w now conn m.subject r AllowsAll) (user_at w conn) u at reason).0)
    here (Published (Index i) items) effect reason = absurd (by_lists (Index i) (at_some (λ (r : User). IsAllowance w now conn m.subject r (Index i)) (user_at w conn) u at reason).0)
    here (Published Grant items) effect reason = inr (items, refl)
    here (Taken deliveries missed) effect reason = absurd effect
    here Closed effect reason = absurd effect
    here (Reloaded gone removed) effect reason = absurd effect

pub deny_overrides_publish : DenyOverridesPublish
deny_overrides_publish s e a after routed conn m word u asked at some =
    publish_denied s.world after.world (max s.world.moment e.now) conn m word u a.outcome at some
    (subst (λ c. IsEffect s.world (max s.world.moment e.now) c a.outcome after.world) asked routed.effect)
    (subst (λ c. HasReason s.world (max s.world.moment e.now) c a.outcome) asked routed.reason)

-- ---- subscribe

subscribe_denied : (w after : World) (now conn : ℕ) (p : List Token) (queue : Option (List Token)) (sid : List ℕ) (u : User) (outcome : Outcome) → user_at w conn ≡ Some u →
    list_any (λ (d : ListEntry). is_entry_for queue d && covers d.subject p) u.rules.subscribe.deny ≡ true → accepts outcome ≡ allows w now (Sub conn p queue sid) →
    IsEffect w now (Sub conn p queue sid) outcome after → HasReason w now (Sub conn p queue sid) outcome → IsDeniedByEntry outcome
subscribe_denied w after now conn p queue sid u outcome at some = here outcome
  where
    at_entry : ℕ
    at_entry = position_or_len (λ (d : ListEntry). is_entry_for queue d && covers d.subject p) u.rules.subscribe.deny

    denied : subscribe_verdict u.rules p queue ≡ DeniedBy at_entry
    denied = is_denied (λ (d : ListEntry). is_entry_for queue d && covers d.subject p) u.rules.subscribe.deny _ some

    refused : may_subscribe (user_at w conn) p queue ≡ false
    refused = ap (λ o. may_subscribe o p queue) at ∙ ap is_allowed denied

    never : true ≡ may_subscribe (user_at w conn) p queue → ⊥
    never allowed = let both : true ≡ false = allowed ∙ refused in absurd (cc)

    here : (o : Outcome) → accepts o ≡ allows w now (Sub conn p queue sid) → IsEffect w now (Sub conn p queue sid) o after → HasReason w now (Sub conn p queue sid) o → IsDeniedByEntry o
    here Connected accepted effect reason = absurd effect
    here AuthViolation accepted effect reason = absurd effect
    here Subscribed accepted effect reason = absurd (never accepted)
    here SameSid accepted effect reason = absurd (never accepted)
    here SubLimit accepted effect reason = absurd (never accepted)
    here (Denied v) accepted effect reason =
        let is = at_some _ (user_at w conn) u at reason in (at_entry, ap (λ x. Denied x) (is.0 ∙ denied))
    here Unsubscribed accepted effect reason = absurd effect
    here (Published by items) accepted effect reason = absurd effect
    here (Taken deliveries missed) accepted effect reason = absurd effect
    here Closed accepted effect reason = absurd effect
    here (Reloaded gone removed) accepted effect reason = absurd effect

pub deny_overrides_subscribe : DenyOverridesSubscribe
deny_overrides_subscribe s e a after routed conn p queue sid u asked at some =
    subscribe_denied s.world after.world (max s.world.moment e.now) conn p queue sid u a.outcome at some
    (subst (λ c. accepts a.outcome ≡ allows s.world (max s.world.moment e.now) c) asked routed.accepted)
    (subst (λ c. IsEffect s.world (max s.world.moment e.now) c a.outcome after.world) asked routed.effect)
    (subst (λ c. HasReason s.world (max s.world.moment e.now) c a.outcome) asked routed.reason)

-- ---- delivery

-- what is allowed no deny entry has
none_denies : (test : ListEntry → Bool) (deny : List ListEntry) → is_allowed (unless_denied (position test deny) (Allowed AllowsAll)) ≡ true → list_any test deny ≡ false
none_denies test deny allowed = here (list_any test deny) refl
  where
    here : (b : Bool) → list_any test deny ≡ b → b ≡ false
    here true some = let no : false ≡ true = sym (ap is_allowed (is_denied test deny (Allowed AllowsAll) some)) ∙ allowed in absurd (cc)
    here false some = refl

undenied : (w : World) (routes : Routes) (conn : ℕ) (account : List ℕ) (m : Message) (into : List ℕ) (local : List Token) (sub : Subscription) → IsAdmitted w routes conn account m into local sub → IsUndenied w local sub
undenied w routes conn account m into local sub admitted = here (user_at w sub.conn) (back _ _ admitted.may)
  where
    here : (o : Option User) → may_receive into local sub.queue o ≡ true →
        IsSomeAnd o (λ (u : User). list_any (λ (d : ListEntry). is_entry_for sub.queue d && in_set d.subject local) u.rules.subscribe.deny ≡ false)
    here None h = absurd (cc)
    here (Some u) h = none_denies (λ (d : ListEntry). is_entry_for sub.queue d && in_set d.subject local) u.rules.subscribe.deny
        (back (pointwise nat_eq u.account into) (is_allowed (delivery_verdict u.rules local sub.queue)) h)

delivery_undenied : (w : World) (routes : Routes) (conn : ℕ) (account : List ℕ) (m : Message) (to : ℕ) (d : Delivery) → IsDeliveryToAdmitted w routes conn account m to d → IsDeliveryToUndenied w to d
delivery_undenied w routes conn account m to d is =
    (is.2, is.3.stood, is.4, sym (ap (λ (x : Delivery). x.sid) is.6), subst (λ (t : List Token). IsUndenied w t is.2) (sym (ap (λ (x : Message). x.subject) is.5.0)) (undenied w routes conn account m is.0 is.1 is.2 is.3))

pub deny_overrides_delivery : DenyOverridesDelivery
deny_overrides_delivery = weaker _ _ (λ w after conn u m items sound reaches. new_weaker (IsDeliveryToAdmitted w (live_routes w after) conn u.account m) (IsDeliveryToUndenied w) w.sessions after.sessions (delivery_undenied w (live_routes w after) conn u.account m) reaches.sent) nothing_unadmitted

-- ---- what is denied

pub denied_reaches_nobody : DeniedReachesNobody
denied_reaches_nobody s e a after routed conn m word v asked answered =
    subst (λ now. IsUntouched s.world now after.world) (sym (ap (λ (w : World). w.moment) routed.others))
    (subst₂ (λ c o. IsEffect s.world (max s.world.moment e.now) c o after.world) asked answered routed.effect)
