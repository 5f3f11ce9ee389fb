-- The transition keeps the guarantee, command by command.
use Rattle.std.proofs.Common.{◌||◌, ◌≡◌, ◌∙◌, ◌==◌, ◌&&◌, ℕ, ◌+◌, ◌≤◌, Bool, true, false, not, cond, List, [], ◌∷◌, ◌++◌, map, filter, length, take, drop, Option, Some, None, Result, Ok, Err, ap, sym, refl, subst, arith, max}
use Rattle.std.specs.Prelude.{IfSome, IsSomeAnd, is_some, min, nat_le, IfOk}
use Rattle.std.proofs.lemmas.List.{length-drop}
use Rattle.subjects.specs.Subject.{Token}
use Rattle.permissions.specs.Verdicts.{publish_verdict, subscribe_verdict, is_allowed, IsJustifiedPublish, IsJustifiedSubscribe}
use Rattle.permissions.specs.declared.verdict.By.{By}
use Rattle.permissions.specs.declared.verdict.By.TheVariants.{All as AllowsAll, Index, Grant}
use Rattle.permissions.specs.declared.verdict.Verdict.{Verdict}
use Rattle.permissions.specs.declared.verdict.Verdict.TheVariants.{Allowed, DeniedBy, NoAllow, NoQueueAllow}
use Rattle.policy_doc.specs.declared.document.PolicyDoc.{PolicyDoc}
use Rattle.policy_ready.specs.Users.{user_with_password}
use Rattle.policy_ready.specs.declared.ready.User.{User}
use Rattle.events.specs.Messages.{Message}
use Rattle.events.specs.declared.event.Event.{Event}
use Rattle.events.specs.declared.event.Command.{Command}
use Rattle.events.specs.declared.event.Command.TheVariants.{Connect, Sub, Unsub, Pub, Take, Close, Reload}
use Rattle.events.specs.declared.answer.Delivery.{Delivery}
use Rattle.events.specs.declared.answer.Entry.{Entry}
use Rattle.events.specs.declared.answer.Item.{Item}
use Rattle.events.specs.declared.answer.Item.TheVariants.{Unmapped as UnmappedItem, MappedTooLong}
use Rattle.policy_ready.specs.Drawing.{mapped_by}
use Rattle.policy_ready.specs.Mapped.{Mapped}
use Rattle.policy_ready.specs.Mapped.TheVariants.{Same, To, Unmapped, TooLong}
use Rattle.world.specs.Routing.{under_subject}
use Rattle.events.specs.declared.answer.Outcome.{Outcome}
use Rattle.events.specs.declared.answer.Outcome.TheVariants.{Connected, AuthViolation, Subscribed, SameSid, SubLimit, Denied, Unsubscribed, Published, Taken, Closed}
use Rattle.events.specs.declared.refusal.HubRefusal.{HubRefusal}
use Rattle.events.specs.declared.refusal.HubRefusal.TheVariants.{HistoryFull, NoSession, SessionTaken, SessionLimit, NoMemory}
use Rattle.service_exporter.specs.Routes.{Exporter}
use Rattle.service_routes.specs.Routes.{Name, pruned, spent}
use Rattle.world_sessions.specs.deliveries.Sessions.{session_of, with_session, new_session, drained}
use Rattle.reply_grants.specs.Replies.{grants_of}
use Rattle.events.specs.declared.answer.Addressed.{Addressed}
use Rattle.world_sessions.specs.deliveries.Delivered.{delivered}
use Rattle.world_sessions.specs.deliveries.Replying.{terms_of, is_granted}
use Rattle.world_sessions.specs.declared.deliveries.session.Session.{Session}
use Rattle.world_subscriptions.specs.Subscriptions.{is_under, stands, has_all, subscription_of}
use Rattle.world_subscriptions.specs.Limit.{is_entry_for, unended, limit_of, limited}
use Rattle.world_rows.specs.declared.subscription.Subscription.{Subscription}
use Rattle.world.specs.World.{World, advanced}
use Rattle.world.specs.Granting.{or_granted, verdict_on, counted_on, ended_on}
use Rattle.policy_ready.specs.declared.imports.view.ViewItem.{ViewItem}
use Rattle.world.proofs.Handed.{same_met}
use Rattle.world.specs.Transition.{IsReasoned, IsRefusal, connected, subscribed, unsubscribed, mapped_to, published, seen_as, seen_nowhere, taken, closed, in_session, in_new_session, moved, numbered, transition}
use Rattle.hub.specs.Sound.{IsSound, is_to_receive, user_at, account_of, may_subscribe, HasAllowance}
use Rattle.hub.specs.InForce.{policy_after, epoch_after}
use Rattle.hub.specs.History.{State, is_history_full, remembered, stepped, IsStep}
use Rattle.hub.specs.Routes.{EachRoute, IsOfRow}
use Rattle.hub.specs.Replies.{terms_in, grants_at, has_grant, may_respond}
use Rattle.hub.specs.Guarantee.{items_of, received_more, Sending, sendings, routes_behind, IsViewPart, IsMapped, IsSeenNowhere, IsSent, IsAllowance, accepts, allows, may_publish, IsDenial, HasReason, IsUntouched, IsEffect, is_connect, is_nobodys, has_session, is_fit, is_in_order, is_due, is_at_limit, IsRouted, KeepsGuarantee, IsGuarded}
use Rattle.std.proofs.Math.Bool.{or-true}
use Rattle.std.proofs.lemmas.Bool.{eqb-true}
use Rattle.hub.proofs.Finds.{find-passes}
use Rattle.hub.proofs.Naming.{user_named-again}
use Rattle.hub.proofs.Grants.{granted_is}
use Rattle.hub.proofs.Soundness.{next, next_with, HasTable, KeepsSession, KeepsSubscription, either, keeps-where, user_at-session, sound-same, sound-routes, sound-map, unended-same, sound-limits, sound-open, sound-add, sound-close}
use Rattle.hub.proofs.Reloads.{in_force, sound-reload}
use Rattle.hub.proofs.Sent.{receives-keeps, setting_of, is_setting, is_part, stages-routed, stages-rows}
use Rattle.hub.proofs.Routes.{EachRouted, routed-pruned, routed-spent}
use Rattle.hub.proofs.Rows.{each-pruned, each-spent, views-by_rows}
use Rattle.world_sessions.proofs.deliveries.Changes.{only, with_session-map}
use Rattle.hub.proofs.Deliveries.{sent as addressed, receives_of, outboxes, with_room}
use Rattle.hub.proofs.Entering.{received-keeps}
use Rattle.hub.proofs.Views.{Setting, Stage, standing, views_of, first_stage, last_stage, parts_of, told_of, standing-first, seen-is, sessions-are, items-are, items-of, routes-are, parts-views, each-part, each-in}

-- where the tables turn a command away
abbrev turns_away : World → Command → HubRefusal → Bool
turns_away w c HistoryFull = false
turns_away w c SessionTaken = is_connect c && has_session w c
turns_away w c NoSession = not (is_connect c || is_nobodys c) && not (has_session w c)
turns_away w c SessionLimit = is_connect c && not (has_session w c) && is_at_limit w
turns_away w c NoMemory = is_fit w c

-- what the guarantee says of the worlds before and after an answered step
pub record IsMoved (w : World) (e : Event) (o : Outcome) (after : World) : Type 0 where
  pub accepted : accepts o ≡ allows w (max w.moment e.now) e.what
  pub reason : HasReason w (max w.moment e.now) e.what o
  pub effect : IsEffect w (max w.moment e.now) e.what o after
  pub others : (after ≡ record w { policy = policy_after w e.what; epoch = epoch_after w e.what; moment = max w.moment e.now; number = w.number + 1; sessions = after.sessions; subscriptions = after.subscriptions; routes = after.routes })
  pub sound : IsSound after

-- the guarantee of what the transition gives
abbrev Keeps : World → Event → Result (Outcome × World) HubRefusal → Type 0
Keeps w e (Ok r) = (is_fit w e.what ≡ true) × (IsReasoned w e.what r.0 → IsMoved w e r.0 r.1)
Keeps w e (Err refusal) = turns_away w e.what refusal ≡ true

abbrev event : ℕ → Command → Event
event now c = record { now = now; what = c }

-- a command other than a reload
answered_with : (w : World) (now : ℕ) (c : Command) (o : Outcome) (zs : List Session) (subs : List Subscription) (routes : List (Name × Exporter)) →
    (policy_after w c ≡ w.policy) × (epoch_after w c ≡ w.epoch) → is_fit w c ≡ true → accepts o ≡ allows w (max w.moment now) c → (IsReasoned w c o → HasReason w (max w.moment now) c o) → IsEffect w (max w.moment now) c o (next_with w now zs subs routes) → (IsReasoned w c o → IsSound (next_with w now zs subs routes)) →
    Keeps w (event now c) (Ok (o, next_with w now zs subs routes))
answered_with w now c o zs subs routes stay fit accepted reason effect sound = (
  fit,
  λ reasoned. record {
    accepted = accepted;
    reason = reason reasoned;
    effect = effect;
    others = ap (λ doc. record (next_with w now zs subs routes) { policy = doc }) (sym stay.0)
        ∙ ap (λ n. record (next_with w now zs subs routes) { policy = policy_after w c; epoch = n }) (sym stay.1);
    sound = sound reasoned;
  },
)

-- and other than a publish
answered : (w : World) (now : ℕ) (c : Command) (o : Outcome) (zs : List Session) (subs : List Subscription) →
    (policy_after w c ≡ w.policy) × (epoch_after w c ≡ w.epoch) → is_fit w c ≡ true → accepts o ≡ allows w (max w.moment now) c → (IsReasoned w c o → HasReason w (max w.moment now) c o) → IsEffect w (max w.moment now) c o (next w now zs subs) → (IsReasoned w c o → IsSound (next w now zs subs)) →
    Keeps w (event now c) (Ok (o, next w now zs subs))
answered w now c o zs subs = answered_with w now c o zs subs (pruned (max w.moment now) w.routes)

untouched : (w : World) (now : ℕ) → IsUntouched w (max w.moment now) (next w now w.sessions w.subscriptions)
untouched w now = record { sessions = refl; subscriptions = refl; routes = refl }

-- ---- when a refusal is due

is_there : (o : Option Session) (z : Session) → o ≡ Some z → is_some o ≡ true
is_there o z e = ap is_some e

none-due : (o : Option Session) → o ≡ None → not (is_some o) ≡ true
none-due o e = ap (λ x. not (is_some x)) e

limit-due : (l : Bool) (o : Option Session) → o ≡ None → l ≡ true → (not (is_some o) && l) ≡ true
limit-due l o e limit = ap (λ x. not (is_some x) && l) e ∙ limit

connect-fit : (l : Bool) (o : Option Session) → o ≡ None → l ≡ false → (not (is_some o) && not l) ≡ true
connect-fit l o e limit = ap (λ x. not (is_some x) && not l) e ∙ ap not limit

-- ---- Connect

connect-keeps : (w : World) (now conn : ℕ) (name : Option (List ℕ)) (password : List ℕ) (echo : Bool) → IsSound w →
    Keeps w (event now (Connect conn name password echo)) (numbered (w.number + 1) (moved (advanced w now) (Connect conn name password echo)))
connect-keeps w now conn name password echo sound = by_session (session_of w.sessions conn) refl
  where
    by_user : (uo : Option User) → user_with_password w.policy name password ≡ uo → session_of w.sessions conn ≡ None → nat_le 4096 (length w.sessions) ≡ false → is_fit w (Connect conn name password echo) ≡ true →
        Keeps w (event now (Connect conn name password echo)) (numbered (w.number + 1) (Ok (connected (advanced w now) conn echo uo)))
    by_user None u e room fit = answered w now (Connect conn name password echo) AuthViolation w.sessions w.subscriptions (refl, refl) fit (sym (ap is_some u)) (λ _. tt) (untouched w now) (λ _. sound-same w now sound)
    by_user (Some user) u e room fit =
        let zs : List Session = w.sessions ++ new_session conn user echo w.capacity ∷ [] in
        answered w now (Connect conn name password echo) Connected zs w.subscriptions (refl, refl) fit (sym (ap is_some u)) (λ _. tt)
        (subst (λ o. IsSomeAnd o (λ (v : User). zs ≡ w.sessions ++ new_session conn v echo w.capacity ∷ [])) (sym u) refl, refl, refl)
        (λ _. sound-open w now conn user echo e room (user_named-again w.policy name password user sound.policy u) sound)

    by_limit : (l : Bool) → nat_le 4096 (length w.sessions) ≡ l → session_of w.sessions conn ≡ None →
        Keeps w (event now (Connect conn name password echo)) (numbered (w.number + 1) (cond l (Err SessionLimit) (Ok (connected (advanced w now) conn echo (user_with_password w.policy name password)))))
    by_limit true limit e = limit-due (is_at_limit w) (session_of w.sessions conn) e limit
    by_limit false limit e = by_user (user_with_password w.policy name password) refl e limit (connect-fit (is_at_limit w) (session_of w.sessions conn) e limit)

    by_session : (o : Option Session) → session_of w.sessions conn ≡ o →
        Keeps w (event now (Connect conn name password echo)) (numbered (w.number + 1) (in_new_session (advanced w now) o (connected (advanced w now) conn echo (user_with_password w.policy name password))))
    by_session (Some z) e = is_there (session_of w.sessions conn) z e
    by_session None e = by_limit (nat_le 4096 (length w.sessions)) refl e

-- ---- Sub

sub-keeps : (w : World) (now conn : ℕ) (p : List Token) (queue : Option (List Token)) (sid : List ℕ) → IsSound w →
    Keeps w (event now (Sub conn p queue sid)) (numbered (w.number + 1) (moved (advanced w now) (Sub conn p queue sid)))
sub-keeps w now conn p queue sid sound = by_session (session_of w.sessions conn) refl
  where
    -- the verdict on what is asked has its reason
    Reasoned : Type 0
    Reasoned = IfSome (session_of w.sessions conn) (λ (y : Session). IsJustifiedSubscribe p queue y.user.rules.subscribe (subscribe_verdict y.user.rules p queue))

    justified : (v : Verdict) (z : Session) → subscribe_verdict z.user.rules p queue ≡ v → session_of w.sessions conn ≡ Some z → Reasoned → IsJustifiedSubscribe p queue z.user.rules.subscribe v
    justified v z e at reasoned =
        subst (λ x. IsJustifiedSubscribe p queue z.user.rules.subscribe x) e
        (subst (λ o. IfSome o (λ (y : Session). IsJustifiedSubscribe p queue y.user.rules.subscribe (subscribe_verdict y.user.rules p queue))) at reasoned)

    denied : (v : Verdict) (z : Session) → subscribe_verdict z.user.rules p queue ≡ v → session_of w.sessions conn ≡ Some z → user_at w conn ≡ Some z.user → Reasoned → IsDenial w (Sub conn p queue sid) v
    denied v z e at u reasoned =
        subst (λ o. IsSomeAnd o (λ (user : User). (v ≡ subscribe_verdict user.rules p queue) × IsJustifiedSubscribe p queue user.rules.subscribe v)) (sym u)
        (sym e, justified v z e at reasoned)

    allowance : (by : By) (z : Session) → subscribe_verdict z.user.rules p queue ≡ Allowed by → session_of w.sessions conn ≡ Some z → user_at w conn ≡ Some z.user → Reasoned → HasAllowance (user_at w conn) p queue
    allowance by z e at u reasoned = subst (λ o. HasAllowance o p queue) (sym u) (by, justified (Allowed by) z e at reasoned)

    allowed : (v : Verdict) (z : Session) → subscribe_verdict z.user.rules p queue ≡ v → user_at w conn ≡ Some z.user → may_subscribe (user_at w conn) p queue ≡ is_allowed v
    allowed v z e u = ap (λ o. may_subscribe o p queue) u ∙ ap is_allowed e

    added : Session → List Subscription
    added z = w.subscriptions ++ subscription_of (w.number + 1) conn z.user.account p queue sid ∷ []

    by_limit : (l : Bool) (z : Session) → has_all w.subscriptions conn ≡ l → stands w.subscriptions conn sid ≡ false → user_at w conn ≡ Some z.user → may_subscribe (user_at w conn) p queue ≡ true → (Reasoned → HasAllowance (user_at w conn) p queue) → is_fit w (Sub conn p queue sid) ≡ true →
        Keeps w (event now (Sub conn p queue sid)) (numbered (w.number + 1) (Ok (cond l (SubLimit, advanced w now) (Subscribed, record (advanced w now) { subscriptions = added z }))))
    by_limit true z limit taken u may has fit = answered w now (Sub conn p queue sid) SubLimit w.sessions w.subscriptions (refl, refl) fit (sym may) has (taken, limit, untouched w now) (λ _. sound-same w now sound)
    by_limit false z limit taken u may has fit =
        answered w now (Sub conn p queue sid) Subscribed w.sessions (added z) (refl, refl) fit (sym may) has
        (taken, limit, refl, subst (λ o. IsSomeAnd o (λ (user : User). added z ≡ w.subscriptions ++ subscription_of (w.number + 1) conn user.account p queue sid ∷ [])) (sym u) refl, refl)
        (λ reasoned. sound-add w now conn z.user.account p queue sid may (has reasoned) (ap account_of u) taken limit sound)

    by_sid : (t : Bool) (z : Session) → stands w.subscriptions conn sid ≡ t → user_at w conn ≡ Some z.user → may_subscribe (user_at w conn) p queue ≡ true → (Reasoned → HasAllowance (user_at w conn) p queue) → is_fit w (Sub conn p queue sid) ≡ true →
        Keeps w (event now (Sub conn p queue sid)) (numbered (w.number + 1) (Ok (cond t (SameSid, advanced w now) (cond (has_all w.subscriptions conn) (SubLimit, advanced w now) (Subscribed, record (advanced w now) { subscriptions = added z })))))
    by_sid true z taken u may has fit = answered w now (Sub conn p queue sid) SameSid w.sessions w.subscriptions (refl, refl) fit (sym may) has (taken, untouched w now) (λ _. sound-same w now sound)
    by_sid false z taken u may has fit = by_limit (has_all w.subscriptions conn) z refl taken u may has fit

    by_verdict : (v : Verdict) (z : Session) → subscribe_verdict z.user.rules p queue ≡ v → session_of w.sessions conn ≡ Some z → user_at w conn ≡ Some z.user → is_fit w (Sub conn p queue sid) ≡ true →
        Keeps w (event now (Sub conn p queue sid)) (numbered (w.number + 1) (Ok (subscribed (advanced w now) conn z.user.account p queue sid v)))
    by_verdict (Allowed by) z e at u fit = by_sid (stands w.subscriptions conn sid) z refl u (allowed (Allowed by) z e u) (allowance by z e at u) fit
    by_verdict (DeniedBy i) z e at u fit = answered w now (Sub conn p queue sid) (Denied (DeniedBy i)) w.sessions w.subscriptions (refl, refl) fit (sym (allowed (DeniedBy i) z e u)) (denied (DeniedBy i) z e at u) (untouched w now) (λ _. sound-same w now sound)
    by_verdict NoAllow z e at u fit = answered w now (Sub conn p queue sid) (Denied NoAllow) w.sessions w.subscriptions (refl, refl) fit (sym (allowed NoAllow z e u)) (denied NoAllow z e at u) (untouched w now) (λ _. sound-same w now sound)
    by_verdict (NoQueueAllow i) z e at u fit = answered w now (Sub conn p queue sid) (Denied (NoQueueAllow i)) w.sessions w.subscriptions (refl, refl) fit (sym (allowed (NoQueueAllow i) z e u)) (denied (NoQueueAllow i) z e at u) (untouched w now) (λ _. sound-same w now sound)

    by_session : (o : Option Session) → session_of w.sessions conn ≡ o →
        Keeps w (event now (Sub conn p queue sid)) (numbered (w.number + 1) (in_session o (λ z. subscribed (advanced w now) conn z.user.account p queue sid (subscribe_verdict z.user.rules p queue))))
    by_session None e = none-due (session_of w.sessions conn) e
    by_session (Some z) e = by_verdict (subscribe_verdict z.user.rules p queue) z refl e (user_at-session w sound conn z e) (is_there (session_of w.sessions conn) z e)

-- ---- Pub

pub-keeps : (w : World) (now conn : ℕ) (m : Message) (word : ℕ) → IsSound w →
    Keeps w (event now (Pub conn m word)) (numbered (w.number + 1) (moved (advanced w now) (Pub conn m word)))
pub-keeps w now conn m word sound = by_session (session_of w.sessions conn) refl
  where
    command : Command
    command = Pub conn m word

    Reasoned : Type 0
    Reasoned = IfSome (session_of w.sessions conn) (λ (y : Session). IsJustifiedPublish m.subject y.user.rules.publish (publish_verdict y.user.rules m.subject))

    justified : (v : Verdict) (z : Session) → publish_verdict z.user.rules m.subject ≡ v → session_of w.sessions conn ≡ Some z → Reasoned → IsJustifiedPublish m.subject z.user.rules.publish v
    justified v z e at reasoned =
        subst (λ x. IsJustifiedPublish m.subject z.user.rules.publish x) e
        (subst (λ o. IfSome o (λ (y : Session). IsJustifiedPublish m.subject y.user.rules.publish (publish_verdict y.user.rules m.subject))) at reasoned)

    denied : (v : Verdict) (z : Session) → publish_verdict z.user.rules m.subject ≡ v → session_of w.sessions conn ≡ Some z → user_at w conn ≡ Some z.user → Reasoned → IsDenial w command v
    denied v z e at u reasoned =
        subst (λ o. IsSomeAnd o (λ (user : User). (v ≡ publish_verdict user.rules m.subject) × IsJustifiedPublish m.subject user.rules.publish v)) (sym u)
        (sym e, justified v z e at reasoned)

    later : ℕ
    later = max w.moment now

    -- a live grant is one that the guarantee speaks of
    may_respond-is : (z : Session) → session_of w.sessions conn ≡ Some z → user_at w conn ≡ Some z.user → may_respond w later conn m.subject ≡ is_granted later m.subject z
    may_respond-is z at u =
        ap (λ o. has_grant later m.subject (terms_in o) (grants_at (session_of w.sessions conn))) u
        ∙ ap (λ o. has_grant later m.subject (terms_of z) (grants_at o)) at
        ∙ sym (granted_is m.subject later (terms_of z) (grants_of z.replies))

    may_publish-is : (v : Verdict) (z : Session) → publish_verdict z.user.rules m.subject ≡ v → user_at w conn ≡ Some z.user → may_publish (user_at w conn) m.subject ≡ is_allowed v
    may_publish-is v z e u = ap (λ o. may_publish o m.subject) u ∙ ap is_allowed e

    Allows : By → Type 0
    Allows by = IsSomeAnd (user_at w conn) (λ (user : User). IsAllowance w later conn m.subject user by)

    -- what the lists allow
    listed : (by : By) (z : Session) → publish_verdict z.user.rules m.subject ≡ Allowed by → session_of w.sessions conn ≡ Some z → user_at w conn ≡ Some z.user → Reasoned → Allows by
    listed AllowsAll z e at u reasoned = subst (λ o. IsSomeAnd o (λ (user : User). IsAllowance w later conn m.subject user AllowsAll)) (sym u) (e, justified (Allowed AllowsAll) z e at reasoned)
    listed (Index i) z e at u reasoned = subst (λ o. IsSomeAnd o (λ (user : User). IsAllowance w later conn m.subject user (Index i))) (sym u) (e, justified (Allowed (Index i)) z e at reasoned)
    listed Grant z e at u reasoned = absurd (justified (Allowed Grant) z e at reasoned)

    -- what a grant allows
    granted : (v : Verdict) (z : Session) → publish_verdict z.user.rules m.subject ≡ v → is_allowed v ≡ false → is_granted later m.subject z ≡ true → session_of w.sessions conn ≡ Some z → user_at w conn ≡ Some z.user → Reasoned → Allows Grant
    granted v z e refuses live at u reasoned =
        subst (λ o. IsSomeAnd o (λ (user : User). IsAllowance w later conn m.subject user Grant)) (sym u)
        (ap is_allowed e ∙ refuses, justified (publish_verdict z.user.rules m.subject) z refl at reasoned, may_respond-is z at u ∙ live)

    -- the message on its way as it is sent on, whatever its views are
    setting : Session → Message → Setting
    setting z sent = setting_of w now conn z m.subject sent word

    ss : By → Session → Message → List Sending
    ss by z sent = sendings (parts_of (setting z sent) by)

    items : By → Session → Message → List Item
    items by z sent = told_of (setting z sent) by

    routes : By → Session → Message → List (Name × Exporter)
    routes by z sent = spent z.user.account sent.subject (routes_behind (pruned later w.routes) (parts_of (setting z sent) by))

    after : By → Session → Message → World
    after by z sent = next_with w now (map (receives_of later by conn m.subject (ss by z sent)) w.sessions) (standing (setting z sent) (items by z sent)) (routes by z sent)

    -- it is what the transition makes of it
    sent-is : (by : By) (z : Session) (sent : Message) → session_of w.sessions conn ≡ Some z →
        numbered (w.number + 1) (Ok (seen_as (advanced w now) z by m.subject sent word)) ≡ Ok (Published by (items by z sent), after by z sent)
    sent-is by z sent at =
        let own : z.conn ≡ conn = eqb-true z.conn conn (find-passes (λ (y : Session). y.conn == conn) w.sessions z at) in
        let all : List Addressed = map (addressed w.sessions) (ss by z sent) in
        ap (λ (r : Outcome × World). numbered (w.number + 1) (Ok r)) (seen-is (setting z sent) (is_setting w now conn z m.subject sent word sound at) (standing-first (setting z sent) sound.counts sound.limits) by)
        ∙ ap (λ (zs : List Session). Ok (Published by (items by z sent), next_with w now (ended_on by z.conn m.subject zs) (standing (setting z sent) (items by z sent)) (spent z.user.account sent.subject (last_stage (setting z sent) by).routes))) (sym (sessions-are (setting z sent) (first_stage (setting z sent) by) (views_of (setting z sent))))
        ∙ ap (λ (zs : List Session). Ok (Published by (items by z sent), next_with w now zs (standing (setting z sent) (items by z sent)) (spent z.user.account sent.subject (last_stage (setting z sent) by).routes)))
        (ap (λ n. ended_on by n m.subject (delivered later all (counted_on by n m.subject w.sessions)).0) own
        ∙ outboxes later conn m.subject (ss by z sent) w.sessions by sound.connections)
        ∙ ap (λ (left : List (Name × Exporter)). Ok (Published by (items by z sent), next_with w now (after by z sent).sessions (standing (setting z sent) (items by z sent)) (spent z.user.account sent.subject left))) (routes-are (setting z sent) (first_stage (setting z sent) by) (views_of (setting z sent)))

    -- and what the guarantee says of it
    is_sent : (by : By) (z : Session) (sent : Message) → session_of w.sessions conn ≡ Some z → IsSent w later by conn m.subject sent word z.user.account (items by z sent) (after by z sent)
    is_sent by z sent at =
        let first : Stage = first_stage (setting z sent) by in
        let vs : List ViewItem = views_of (setting z sent) in
        record {
          parts = parts_of (setting z sent) by;
          in_views = parts-views (setting z sent) first vs;
          each = each-part (IsViewPart w later conn sent word) [] (parts_of (setting z sent) by) (each-in (IsViewPart w later conn sent word) (setting z sent) (λ done at v is. is_part w now conn z m.subject sent word sound done at is v) [] first vs record { told = refl; routes = refl });
          items_are = refl;
          delivered = record {
            with_room = λ c.
                items-of c (items by z sent)
                ∙ ap (items_of c) (sym (items-are (setting z sent) first vs) ∙ same_met by z.conn m.subject later (map (addressed w.sessions) (ss by z sent)) w.sessions)
                ∙ with_room w.sessions later (ss by z sent) w.sessions c;
            outboxes = refl;
          };
          routes = refl;
        }

    routed : (by : By) (z : Session) (sent : Message) → EachRouted later (routes by z sent)
    routed by z sent =
        routed-spent later z.user.account sent.subject (routes_behind (pruned later w.routes) (parts_of (setting z sent) by))
        (subst (EachRouted later) (routes-are (setting z sent) (first_stage (setting z sent) by) (views_of (setting z sent)))
        (stages-routed (setting z sent) (first_stage (setting z sent) by) (views_of (setting z sent)) (routed-pruned w.moment later w.routes (omega arith) sound.routes)))

    of_rows : (by : By) (z : Session) (sent : Message) → EachRoute (IsOfRow w.policy) (routes by z sent)
    of_rows by z sent =
        each-spent (IsOfRow w.policy) z.user.account sent.subject (routes_behind (pruned later w.routes) (parts_of (setting z sent) by))
        (subst (EachRoute (IsOfRow w.policy)) (routes-are (setting z sent) (first_stage (setting z sent) by) (views_of (setting z sent)))
        (stages-rows (setting z sent) (first_stage (setting z sent) by) (views_of (setting z sent)) (views-by_rows w.policy sound.names (pruned later w.routes) z.user.account sent.subject)
        (each-pruned (IsOfRow w.policy) later w.routes sound.rows)))

    -- what the guarantee says of it, as its account's mappings say
    IsMappedBy : By → List Item → World → Session → Type 0
    IsMappedBy by items after z = IsMapped w later by conn m word z.user.account items after (mapped_by z.user.mappings m.subject word)

    -- a message that is sent on keeps the guarantee
    sends_as : (by : By) (z : Session) (sent : Message) → session_of w.sessions conn ≡ Some z → user_at w conn ≡ Some z.user → (may_publish (user_at w conn) m.subject || may_respond w later conn m.subject) ≡ true → (Reasoned → Allows by) → is_fit w command ≡ true →
        (IsSent w later by conn m.subject sent word z.user.account (items by z sent) (after by z sent) → IsMappedBy by (items by z sent) (after by z sent) z) →
        Keeps w (event now command) (numbered (w.number + 1) (Ok (seen_as (advanced w now) z by m.subject sent word)))
    sends_as by z sent at u may reason fit mapped =
        let zs : List Session = (after by z sent).sessions in
        let subs : List Subscription = (after by z sent).subscriptions in
        subst (Keeps w (event now command)) (sym (sent-is by z sent at))
        (answered_with w now command (Published by (items by z sent)) zs subs (routes by z sent) (refl, refl) fit (sym may) reason
        (subst (λ o. IsSomeAnd o (λ (user : User). IsMapped w later by conn m word user.account (items by z sent) (after by z sent) (mapped_by user.mappings m.subject word))) (sym u) (mapped (is_sent by z sent at)), refl)
        (λ _. sound-routes (next w now zs subs) (routes by z sent) (routed by z sent) (of_rows by z sent)
        (subst (λ (l : List Subscription). IsSound (next w now zs l)) (unended-same (map (received_more (items by z sent)) w.subscriptions))
        (sound-limits (next w now zs w.subscriptions) (received_more (items by z sent)) (received-keeps (items by z sent))
        (sound-map w now (receives_of later by conn m.subject (ss by z sent)) (receives-keeps w.capacity later by conn m.subject (ss by z sent)) sound)))))

    -- or to nobody, where it isn't sent on
    received_by : Item → Subscription → Bool → Subscription
    received_by item sub tells = record sub { received = min 18446744073709551615 (sub.received + length (cond tells (item ∷ []) [])) }

    nowhere : (by : By) (z : Session) (item : Item) → ((sub : Subscription) → is_entry_for sub item ≡ false) → session_of w.sessions conn ≡ Some z → user_at w conn ≡ Some z.user → (may_publish (user_at w conn) m.subject || may_respond w later conn m.subject) ≡ true → (Reasoned → Allows by) → is_fit w command ≡ true →
        ((after : World) → IsSeenNowhere w later by conn m.subject item (item ∷ []) after → IsMappedBy by (item ∷ []) after z) →
        Keeps w (event now command) (numbered (w.number + 1) (Ok (seen_nowhere (advanced w now) z by m.subject item)))
    nowhere by z item other at u may reason fit mapped =
        let own : z.conn ≡ conn = eqb-true z.conn conn (find-passes (λ (y : Session). y.conn == conn) w.sessions z at) in
        let zs : List Session = map (receives_of later by conn m.subject []) w.sessions in
        let left : List (Name × Exporter) = pruned later w.routes in
        let after : World = next_with w now zs w.subscriptions left in
        let sessions_are : ended_on by z.conn m.subject (counted_on by z.conn m.subject w.sessions) ≡ zs =
        ap (λ n. ended_on by n m.subject (counted_on by n m.subject w.sessions)) own ∙ outboxes later conn m.subject [] w.sessions by sound.connections in
        let same : w.subscriptions ≡ filter is_to_receive (map (received_more (item ∷ [])) w.subscriptions) =
        sym (standing-first (setting z m) sound.counts sound.limits)
        ∙ ap (λ (f : Subscription → Subscription). filter is_to_receive (map f w.subscriptions)) (λ i sub. received_by item sub (sym (other sub) i)) in
        subst (λ (xs : List Session). Keeps w (event now command) (Ok (Published by (item ∷ []), next_with w now xs w.subscriptions left))) (sym sessions_are)
        (answered_with w now command (Published by (item ∷ [])) zs w.subscriptions left (refl, refl) fit (sym may) reason (
          subst (λ o. IsSomeAnd o (λ (user : User). IsMapped w later by conn m word user.account (item ∷ []) after (mapped_by user.mappings m.subject word))) (sym u)
              (mapped after (record { single = refl; outboxes = refl; routes = refl })),
          same,
        )
        (λ _. sound-map w now (receives_of later by conn m.subject []) (receives-keeps w.capacity later by conn m.subject []) sound))

    sends_mapped : (by : By) (z : Session) (mapped : Mapped) → mapped_by z.user.mappings m.subject word ≡ mapped → session_of w.sessions conn ≡ Some z → user_at w conn ≡ Some z.user → (may_publish (user_at w conn) m.subject || may_respond w later conn m.subject) ≡ true → (Reasoned → Allows by) → is_fit w command ≡ true →
        Keeps w (event now command) (numbered (w.number + 1) (Ok (mapped_to (advanced w now) z by m word mapped)))
    sends_mapped by z Same e at u may reason fit = sends_as by z m at u may reason fit (λ is. subst (IsMapped w later by conn m word z.user.account (items by z m) (after by z m)) (sym e) is)
    sends_mapped by z (To s) e at u may reason fit =
        let sent : Message = under_subject s m in
        sends_as by z sent at u may reason fit (λ is. subst (IsMapped w later by conn m word z.user.account (items by z sent) (after by z sent)) (sym e) is)
    sends_mapped by z Unmapped e at u may reason fit =
        nowhere by z UnmappedItem (λ sub. refl) at u may reason fit (λ after is. subst (IsMapped w later by conn m word z.user.account (UnmappedItem ∷ []) after) (sym e) is)
    sends_mapped by z (TooLong index) e at u may reason fit =
        nowhere by z (MappedTooLong index) (λ sub. refl) at u may reason fit (λ after is. subst (IsMapped w later by conn m word z.user.account (MappedTooLong index ∷ []) after) (sym e) is)

    sends : (by : By) (z : Session) → session_of w.sessions conn ≡ Some z → user_at w conn ≡ Some z.user → (may_publish (user_at w conn) m.subject || may_respond w later conn m.subject) ≡ true → (Reasoned → Allows by) → is_fit w command ≡ true →
        Keeps w (event now command) (numbered (w.number + 1) (Ok (published (advanced w now) z m word (Allowed by))))
    sends by z = sends_mapped by z (mapped_by z.user.mappings m.subject word) refl

    refused : (v : Verdict) (z : Session) → publish_verdict z.user.rules m.subject ≡ v → is_allowed v ≡ false → is_granted later m.subject z ≡ false → session_of w.sessions conn ≡ Some z → user_at w conn ≡ Some z.user → is_fit w command ≡ true →
        Keeps w (event now command) (Ok (Denied v, next w now w.sessions w.subscriptions))
    refused v z e refuses dead at u fit =
        answered w now command (Denied v) w.sessions w.subscriptions (refl, refl) fit
        (sym (ap (λ b. b || may_respond w later conn m.subject) (may_publish-is v z e u ∙ refuses) ∙ may_respond-is z at u ∙ dead))
        (denied v z e at u) (untouched w now) (λ _. sound-same w now sound)

    -- what the lists refuse, a grant may allow
    answers : (v : Verdict) (z : Session) → publish_verdict z.user.rules m.subject ≡ v → is_allowed v ≡ false → is_granted later m.subject z ≡ true → session_of w.sessions conn ≡ Some z → user_at w conn ≡ Some z.user → is_fit w command ≡ true →
        Keeps w (event now command) (numbered (w.number + 1) (Ok (published (advanced w now) z m word (Allowed Grant))))
    answers v z e refuses live at u fit =
        sends Grant z at u (ap (λ b. may_publish (user_at w conn) m.subject || b) (may_respond-is z at u ∙ live) ∙ or-true (may_publish (user_at w conn) m.subject)) (granted v z e refuses live at u) fit

    by_verdict : (v : Verdict) (live : Bool) (z : Session) → publish_verdict z.user.rules m.subject ≡ v → is_granted later m.subject z ≡ live → session_of w.sessions conn ≡ Some z → user_at w conn ≡ Some z.user → is_fit w command ≡ true →
        Keeps w (event now command) (numbered (w.number + 1) (Ok (published (advanced w now) z m word (or_granted live v))))
    by_verdict (Allowed by) live z e is at u fit =
        sends by z at u (ap (λ b. b || may_respond w later conn m.subject) (may_publish-is (Allowed by) z e u)) (listed by z e at u) fit
    by_verdict (DeniedBy i) true z e is at u fit = answers (DeniedBy i) z e refl is at u fit
    by_verdict (DeniedBy i) false z e is at u fit = refused (DeniedBy i) z e refl is at u fit
    by_verdict NoAllow true z e is at u fit = answers NoAllow z e refl is at u fit
    by_verdict NoAllow false z e is at u fit = refused NoAllow z e refl is at u fit
    by_verdict (NoQueueAllow i) true z e is at u fit = answers (NoQueueAllow i) z e refl is at u fit
    by_verdict (NoQueueAllow i) false z e is at u fit = refused (NoQueueAllow i) z e refl is at u fit

    by_session : (o : Option Session) → session_of w.sessions conn ≡ o →
        Keeps w (event now command) (numbered (w.number + 1) (in_session o (λ z. published (advanced w now) z m word (verdict_on later z m.subject))))
    by_session None e = none-due (session_of w.sessions conn) e
    by_session (Some z) e =
        by_verdict (publish_verdict z.user.rules m.subject) (is_granted later m.subject z) z refl refl e (user_at-session w sound conn z e) (is_there (session_of w.sessions conn) z e)

-- ---- Unsub

-- so does a limit
pub limited-keeps : (conn : ℕ) (sid : List ℕ) (most : Option ℕ) → KeepsSubscription (limited conn sid most)
limited-keeps conn sid most =
    keeps-where (is_under conn sid) (λ (s : Subscription). record s { most = Some (limit_of most) })
    (record { id = λ s. refl; conn = λ s. refl; account = λ s. refl; subject = λ s. refl; queue = λ s. refl; sid = λ s. refl; received = λ s few. few })

unsub-keeps : (w : World) (now conn : ℕ) (sid : List ℕ) (most : Option ℕ) → IsSound w →
    Keeps w (event now (Unsub conn sid most)) (numbered (w.number + 1) (moved (advanced w now) (Unsub conn sid most)))
unsub-keeps w now conn sid most sound = by_session (session_of w.sessions conn) refl
  where
    by_session : (o : Option Session) → session_of w.sessions conn ≡ o →
        Keeps w (event now (Unsub conn sid most)) (numbered (w.number + 1) (in_session o (λ z. unsubscribed (advanced w now) conn sid most)))
    by_session None e = none-due (session_of w.sessions conn) e
    by_session (Some z) e =
        answered w now (Unsub conn sid most) Unsubscribed w.sessions (unended (map (limited conn sid most) w.subscriptions)) (refl, refl)
        (is_there (session_of w.sessions conn) z e) refl (λ _. tt) (refl, unended-same (map (limited conn sid most) w.subscriptions), refl)
        (λ _. sound-limits (next w now w.sessions w.subscriptions) (limited conn sid most) (limited-keeps conn sid most) (sound-same w now sound))

-- ---- Take and Close

bounded-drop : (ws : List Delivery) (most bound : ℕ) → length ws ≤ bound → length (drop most ws) ≤ bound
bounded-drop ws most bound h = omega (arith, length-drop most ws)

drained-keeps : (capacity now most conn : ℕ) → KeepsSession capacity now (only (drained most) conn)
drained-keeps capacity now most conn = record {
  conn = λ z. either (λ (y : Session). y.conn) (z.conn == conn) (drained most z) z refl;
  user = λ z. either (λ (y : Session). y.user) (z.conn == conn) (drained most z) z refl;
  outbox = λ z is. outbox_is z is (z.conn == conn);
  grants = λ z is. table_is z is (z.conn == conn);
}
  where
    table_is : (z : Session) → HasTable now z → (b : Bool) → HasTable now (cond b (drained most z) z)
    table_is z is true = is
    table_is z is false = is

    outbox_is : (z : Session) → (z.outbox.capacity ≡ capacity) × (length z.outbox.waiting ≤ capacity) → (b : Bool) → ((cond b (drained most z) z).outbox.capacity ≡ capacity) × (length (cond b (drained most z) z).outbox.waiting ≤ capacity)
    outbox_is z is true = (is.0, bounded-drop z.outbox.waiting most capacity is.1)
    outbox_is z is false = is

take-keeps : (w : World) (now conn most : ℕ) → IsSound w →
    Keeps w (event now (Take conn most)) (numbered (w.number + 1) (moved (advanced w now) (Take conn most)))
take-keeps w now conn most sound = by_session (session_of w.sessions conn) refl
  where
    by_session : (o : Option Session) → session_of w.sessions conn ≡ o →
        Keeps w (event now (Take conn most)) (numbered (w.number + 1) (in_session o (taken (advanced w now) conn most)))
    by_session None e = none-due (session_of w.sessions conn) e
    by_session (Some z) e =
        let ds : List Delivery = take most z.outbox.waiting in
        let changed = with_session-map (drained most) conn w.sessions sound.connections in
        answered w now (Take conn most) (Taken ds z.missed) (with_session (drained most) conn w.sessions) w.subscriptions (refl, refl)
        (is_there (session_of w.sessions conn) z e) refl (λ _. tt)
        (subst (λ o. IsSomeAnd o (λ (y : Session). (ds ≡ take most y.outbox.waiting) × (z.missed ≡ y.missed))) (sym e) (refl, refl), changed, refl, refl)
        (λ _. subst (λ zs. IsSound (next w now zs w.subscriptions)) (sym changed) (sound-map w now (only (drained most) conn) (drained-keeps w.capacity (max w.moment now) most conn) sound))

close-keeps : (w : World) (now conn : ℕ) → IsSound w →
    Keeps w (event now (Close conn)) (numbered (w.number + 1) (moved (advanced w now) (Close conn)))
close-keeps w now conn sound = by_session (session_of w.sessions conn) refl
  where
    by_session : (o : Option Session) → session_of w.sessions conn ≡ o →
        Keeps w (event now (Close conn)) (numbered (w.number + 1) (in_session o (λ z. closed (advanced w now) conn)))
    by_session None e = none-due (session_of w.sessions conn) e
    by_session (Some z) e =
        answered w now (Close conn) Closed (filter (λ (y : Session). not (y.conn == conn)) w.sessions) (filter (λ (sub : Subscription). not (sub.conn == conn)) w.subscriptions) (refl, refl)
        (is_there (session_of w.sessions conn) z e) refl (λ _. tt) (refl, refl, refl) (λ _. sound-close w now conn sound)

-- ---- Reload

reload-keeps : (w : World) (now : ℕ) (doc : PolicyDoc) → IsSound w →
    Keeps w (event now (Reload doc)) (numbered (w.number + 1) (moved (advanced w now) (Reload doc)))
reload-keeps w now doc sound = (
  refl,
  λ reasoned. record {
    accepted = refl;
    reason = tt;
    effect = in_force w now doc sound reasoned;
    others = refl;
    sound = sound-reload w now doc sound reasoned;
  },
)

-- ---- a step, and a run

moves : (w : World) (now : ℕ) (c : Command) → IsSound w → Keeps w (event now c) (numbered (w.number + 1) (moved (advanced w now) c))
moves w now (Connect conn name password echo) = connect-keeps w now conn name password echo
moves w now (Sub conn p queue sid) = sub-keeps w now conn p queue sid
moves w now (Unsub conn sid most) = unsub-keeps w now conn sid most
moves w now (Pub conn m word) = pub-keeps w now conn m word
moves w now (Take conn most) = take-keeps w now conn most
moves w now (Close conn) = close-keeps w now conn
moves w now (Reload doc) = reload-keeps w now doc

-- what the transition gives, it keeps
pub moved-by : (w : World) (e : Event) (o : Outcome) (after : World) → IsSound w → transition w e ≡ Ok (o, after) → IsReasoned w e.what o → IsMoved w e o after
moved-by w e o after sound step reasoned = (subst (Keeps w e) step (moves w e.now e.what sound)).1 reasoned

-- the guarantee of what a state comes to
abbrev KeepsState : State → Event → Result (Entry × State) HubRefusal → Type 0
KeepsState s e (Ok r) = (is_in_order s e.what ≡ true) × (IsReasoned s.world e.what r.0.outcome → IsRouted s e r.0 r.1)
KeepsState s e (Err refusal) = is_due s e.what refusal ≡ true

-- where the history is not full, the tables' refusals are due
tables-due : (s : State) (c : Command) (refusal : HubRefusal) → is_history_full s ≡ false → turns_away s.world c refusal ≡ true → is_due s c refusal ≡ true
tables-due s c HistoryFull room due = absurd (cc)
tables-due s c SessionTaken room due = ap (λ b. not b && is_connect c && has_session s.world c) room ∙ due
tables-due s c NoSession room due = ap (λ b. not b && not (is_connect c || is_nobodys c) && not (has_session s.world c)) room ∙ due
tables-due s c SessionLimit room due = ap (λ b. not b && is_connect c && not (has_session s.world c) && is_at_limit s.world) room ∙ due
tables-due s c NoMemory room due = ap (λ b. not b && is_fit s.world c) room ∙ due

keeps : (s : State) (e : Event) → IsSound s.world → KeepsState s e (stepped s e)
keeps s e sound = by_room (is_history_full s) refl
  where
    by_tables : (t : Result (Outcome × World) HubRefusal) → Keeps s.world e t → is_history_full s ≡ false → KeepsState s e (remembered s e t)
    by_tables (Err refusal) kept room = tables-due s e.what refusal room kept
    by_tables (Ok r) kept room = (
      ap (λ b. not b && is_fit s.world e.what) room ∙ kept.0,
      λ reasoned. let m = kept.1 reasoned in record {
        in_order = ap (λ b. not b && is_fit s.world e.what) room ∙ kept.0;
        accepted = m.accepted;
        reason = m.reason;
        effect = m.effect;
        others = m.others;
        number = ap (λ (w : World). w.number) m.others;
        epoch = ap (λ (w : World). w.epoch) m.others;
        event = refl;
        history = refl;
        before = sound;
        sound = m.sound;
      },
    )

    by_room : (full : Bool) → is_history_full s ≡ full → KeepsState s e (cond full (Err HistoryFull) (remembered s e (transition s.world e)))
    by_room true is = is
    by_room false is = by_tables (transition s.world e) (moves s.world e.now e.what sound) is

-- a refusal is due, want of memory too
due : (s : State) (e : Event) (t : Result (Entry × State) HubRefusal) (refusal : HubRefusal) → KeepsState s e t → IsRefusal t refusal → is_due s e.what refusal ≡ true
due s e (Ok r) refusal kept is = ap (is_due s e.what) is ∙ kept.0
due s e (Err cause) refusal kept is = ap (is_due s e.what) is ∙ kept

-- a step is the transition's, and what it denies has its reason
pub guaranteed : (s : State) (e : Event) (r : Result Entry (Event × HubRefusal)) (after : State) → IsSound s.world → IsStep s e r after → IfOk r (λ (a : Entry). IsReasoned s.world e.what a.outcome) → KeepsGuarantee s e r after
guaranteed s e (Ok a) after sound step reasoned = (subst (KeepsState s e) step (keeps s e sound)).1 reasoned
guaranteed s e (Err refused) after sound step reasoned =
    record { back = step.0; same = step.1; due = due s e (stepped s e) refused.1 (keeps s e sound) step.2 }

-- so what every hub keeps, stays
sound-step : (s : State) (e : Event) (r : Result Entry (Event × HubRefusal)) (after : State) → IsSound s.world → KeepsGuarantee s e r after → IsSound after.world
sound-step s e (Ok a) after sound kept = kept.sound
sound-step s e (Err refused) after sound kept = subst (λ (x : State). IsSound x.world) (sym kept.same) sound

pub sound-run : (s : State) (es : List Event) (rs : List (Result Entry (Event × HubRefusal))) (after : State) → IsSound s.world → IsGuarded s es rs after → IsSound after.world
sound-run s [] [] after sound run = subst (λ (x : State). IsSound x.world) (sym run) sound
sound-run s [] (r ∷ rs) after sound run = absurd run
sound-run s (e ∷ es) [] after sound run = absurd run
sound-run s (e ∷ es) (r ∷ rs) after sound run = sound-run run.0 es rs after (sound-step s e r run.0 sound run.1) run.2
