-- Which subscriptions stand on, and the ids of those that don't.
use Rattle.std.proofs.Common.{◌≡◌, ◌∙◌, ◌∷◌, ◌++◌, ℕ, Bool, true, false, cond, not, Decides, List, [], filter, Option, Some, None, ap, sym, refl, subst, true≢false}
use Rattle.std.specs.Prelude.{All, IsSomeAnd, is_some}
use Rattle.std.specs.List.{filter_map, cons_option}
use Rattle.std.proofs.lemmas.List.{append-nil}
use Rattle.std.proofs.lemmas.List.Elements.{All-weaker}
use Rattle.policy_doc.specs.declared.document.PolicyDoc.{PolicyDoc}
use Rattle.permissions.specs.Lists.{Rules}
use Rattle.permissions.specs.Verdicts.{subscribe_by, is_allowed}
use Rattle.permissions.specs.declared.verdict.Verdict.{Verdict}
use Rattle.events.specs.declared.answer.Removed.{Removed}
use Rattle.policy_ready.specs.declared.ready.User.{User}
use Rattle.world_sessions.specs.deliveries.Sessions.{session_of}
use Rattle.world_sessions.specs.Renewal.{user_again_of, HasSameLists}
use Rattle.world_sessions.specs.declared.deliveries.session.Session.{Session}
use Rattle.world_subscriptions.specs.Index.{ids_of}
use Rattle.world_rows.specs.declared.subscription.Subscription.{Subscription}
use Rattle.world.specs.Changes.{lost_id}
use Rattle.world.specs.Reload.{user_before, user_after, verdict_for, verdict_before, may_stand, AllMayStand, stands_on, removed_by, removal, removal_after}

-- they are the ids of those that fail the test
pub lost_ids : (k : Subscription → Bool) (subs : List Subscription) → filter_map (λ (s : Subscription). cond (k s) None (Some s.id)) subs ≡ ids_of (filter (λ (s : Subscription). not (k s)) subs)
lost_ids k [] = refl
lost_ids k (s ∷ subs) = here (k s) (lost_ids k subs)
  where
    here : (b : Bool) → filter_map (λ (r : Subscription). cond (k r) None (Some r.id)) subs ≡ ids_of (filter (λ (r : Subscription). not (k r)) subs)
        → cons_option (cond b None (Some s.id)) (filter_map (λ (r : Subscription). cond (k r) None (Some r.id)) subs) ≡ ids_of (cond (not b) (s ∷ filter (λ (r : Subscription). not (k r)) subs) (filter (λ (r : Subscription). not (k r)) subs))
    here true later = later
    here false later = ap (λ ids. s.id ∷ ids) later

-- what the user may have by its lists, it may have by the same
still_may : (doc : PolicyDoc) (sub : Subscription) (o : Option Session) → IsSomeAnd o (HasSameLists doc) → may_stand (verdict_for (user_before o) sub) ≡ true → may_stand (verdict_for (user_after doc o) sub) ≡ true
still_may doc sub None same may = absurd same
still_may doc sub (Some z) same may = by_user (user_again_of doc z) same
  where
    by_user : (u : Option User) → IsSomeAnd u (λ (u : User). u.rules.subscribe ≡ z.user.rules.subscribe) → may_stand (verdict_for u sub) ≡ true
    by_user None lists = absurd lists
    by_user (Some u) lists = ap (λ (rules : Rules). is_allowed (subscribe_by rules sub.subject sub.queue)) lists ∙ may

-- so a subscription of a session with the same lists stands on
pub same_stands : (doc : PolicyDoc) (zs : List Session) (sub : Subscription) (conn : ℕ) (b : Bool) → conn ≡ sub.conn → Decides b (IsSomeAnd (session_of zs conn) (HasSameLists doc)) → b ≡ true →
    may_stand (verdict_before zs sub) ≡ true → stands_on doc zs sub ≡ true
same_stands doc zs sub conn b is same kept may =
    still_may doc sub (session_of zs sub.conn) (subst (λ n. IsSomeAnd (session_of zs n) (HasSameLists doc)) is (same.0 kept)) may

-- and neither its id nor its removal is told
none_more : {Y : Type 0} (h : Subscription → Option Y) (s : Subscription) (ys : List Y) → h s ≡ None → ys ≡ ys ++ filter_map h (s ∷ [])
none_more {Y} h s ys none = sym (append-nil ys) ∙ ap (λ (o : Option Y). ys ++ cons_option o []) (sym none)

pub no_id : (doc : PolicyDoc) (zs : List Session) (sub : Subscription) (ids : List ℕ) → stands_on doc zs sub ≡ true → ids ≡ ids ++ filter_map (lost_id doc zs) (sub ∷ [])
no_id doc zs sub ids stands = none_more (lost_id doc zs) sub ids (ap (λ b. cond b None (Some sub.id)) stands)

not_removed : (sub : Subscription) (o : Option Verdict) → may_stand o ≡ true → removal sub o ≡ None
not_removed sub None may = refl
not_removed sub (Some v) may = ap (λ b. cond b None (Some (removed_by sub v))) may

pub no_removal : (doc : PolicyDoc) (zs : List Session) (sub : Subscription) (removed : List Removed) → stands_on doc zs sub ≡ true → removed ≡ removed ++ filter_map (removal_after doc zs) (sub ∷ [])
no_removal doc zs sub removed stands = none_more (removal_after doc zs) sub removed (not_removed sub _ stands)

-- one that its user may have has a session
pub have_sessions : (zs : List Session) (subs : List Subscription) → AllMayStand zs subs → All (λ (sub : Subscription). is_some (session_of zs sub.conn) ≡ true) subs
have_sessions zs subs may =
    All-weaker (λ (sub : Subscription). may_stand (verdict_before zs sub) ≡ true) (λ (sub : Subscription). is_some (session_of zs sub.conn) ≡ true) (λ sub. has sub (session_of zs sub.conn)) subs may
  where
    has : (sub : Subscription) (o : Option Session) → may_stand (verdict_for (user_before o) sub) ≡ true → is_some o ≡ true
    has sub None may = absurd (true≢false (sym may))
    has sub (Some z) may = refl
