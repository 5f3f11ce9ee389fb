-- A message that is published: whom each view is for by the policy in force, and what its sessions keep.
use Rattle.std.proofs.Common.{◌||◌, ◌≡◌, ◌∙◌, ◌==◌, ◌&&◌, ℕ, ◌+◌, ◌-◌, ◌<◌, ◌≤◌, Bool, true, false, not, List, [], ◌∷◌, ◌++◌, map, filter, length, get_or, take, Option, Some, None, ap, sym, refl, subst, arith, max}
use Rattle.std.specs.Prelude.{All, IfSome, nat_eq}
use Rattle.std.specs.Cmp.Lexicographic.{pointwise}
use Rattle.std.proofs.lemmas.List.{length-append, length-take}
use Rattle.std.proofs.lemmas.List.Elements.{All-head, All-tail, All-weaker}
use Rattle.std.proofs.lemmas.List.Kept.{AllPairs-filter}
use Rattle.subjects.specs.Subject.{Token, in_set}
use Rattle.permissions.specs.Verdicts.{delivery_verdict, is_allowed, IsJustifiedDelivery}
use Rattle.permissions.specs.declared.verdict.By.{By}
use Rattle.policy_ready.specs.declared.ready.User.{User}
use Rattle.events.specs.Messages.{Message}
use Rattle.events.specs.declared.answer.Delivery.{Delivery}
use Rattle.events.specs.declared.answer.Item.{Item}
use Rattle.policy_ready.specs.declared.imports.view.ViewItem.{ViewItem}
use Rattle.policy_ready.specs.declared.imports.view.ViewItem.TheVariants.{At, TooLong}
use Rattle.policy_ready.specs.declared.imports.view.Way.TheVariants.{Own, Stream, Service, Response}
use Rattle.policy_doc.specs.declared.exports.document.Row.{Row}
use Rattle.service_exporter.specs.Limit.{is_full}
use Rattle.service_exporter.specs.Routes.{Exporter}
use Rattle.service_routes.specs.Routes.{Name, exporter_of, pruned}
use Rattle.world_sessions.specs.deliveries.Sessions.{session_of}
use Rattle.world_sessions.specs.declared.deliveries.session.Session.{Session}
use Rattle.world_rows.specs.declared.subscription.Subscription.{Subscription}
use Rattle.world.specs.World.{World, advanced}
use Rattle.world.specs.Routing.{View, view_of, view_with, is_admitted, may_hear, lets_through, route_for, next_subject}
use Rattle.world.specs.Routing.{is_nil}
use Rattle.hub.specs.Sound.{IsSound, user_behind, user_at, account_of, is_to_receive}
use Rattle.hub.specs.Replies.{is_response}
use Rattle.hub.specs.Routes.{EachRoute, IsOfRow}
use Rattle.hub.specs.Guarantee.{room_in, sent_to, delivery_of, received_more, Sending, Opening, ViewPart, AreServed, IsGivenTo, IsRequestTo, IsRequest, IsViewPart, has_some, may_receive, has_echo, is_for, IsReasonedFor, routes_behind}
use Rattle.std.proofs.lemmas.Bool.{eqb-true}
use Rattle.hub.proofs.Finds.{find-passes}
use Rattle.hub.proofs.Grants.{kept_after}
use Rattle.hub.proofs.Routes.{EachRouted, routed-opened}
use Rattle.hub.proofs.Rows.{IsByRow, each-opened, route-of}
use Rattle.hub.proofs.Soundness.{KeepsSession, user_at-session}
use Rattle.hub.proofs.Reasons.{delivery_justified}
use Rattle.hub.proofs.Groups.{are_served}
use Rattle.hub.proofs.Deliveries.{receives_of}
use Rattle.hub.proofs.Views.{Setting, IsSetting, IsBehind, Stage, Delivered, of_reply, of_request, fate, behind, stage_in, able, whom, part_by, part_in, named-each}

-- the same four facts in another order
reordered : (a i h l : Bool) → ((a && i) && (h && l)) ≡ ((i && h) && (a && l))
reordered true true h l = refl
reordered true false h l = refl
reordered false false h l = refl
reordered false true true l = refl
reordered false true false l = refl

-- A subscription is of the account that its connection's user has in the policy in force, so a view is for those that it
-- is admitted to.
admitted-same : (w : World) (conn : ℕ) (z : Session) (m : Message) (account : List ℕ) (s : List Token) (sub : Subscription) → IsSound w → session_of w.sessions conn ≡ Some z → account_of (user_at w sub.conn) ≡ Some sub.account →
    is_admitted w.sessions z (view_of account s m) sub ≡ is_for w conn account s sub
admitted-same w conn z m account s sub sound at owned = by_session (session_of w.sessions sub.conn) refl owned
  where
    has : Bool
    has = in_set sub.subject s

    heard : Bool
    heard = has_echo (session_of w.sessions conn) || not (sub.conn == conn)

    own : z.conn ≡ conn
    own = eqb-true z.conn conn (find-passes (λ (y : Session). y.conn == conn) w.sessions z at)

    hears : may_hear z sub.conn ≡ heard
    hears = ap (λ n. z.echo || not (sub.conn == n)) own ∙ sym (ap (λ o. has_echo o || not (sub.conn == conn)) at)

    by_session : (o : Option Session) → session_of w.sessions sub.conn ≡ o → account_of (user_behind w.policy o) ≡ Some sub.account →
        is_admitted w.sessions z (view_of account s m) sub ≡ is_for w conn account s sub
    by_session None e is = absurd (cc)
    by_session (Some y) e is =
        let user : user_at w sub.conn ≡ Some y.user = user_at-session w sound sub.conn y e in
        let known : Some sub.account ≡ Some y.user.account = sym owned ∙ ap account_of user in
        let same : sub.account ≡ y.user.account = cc in
        let lets : Bool = is_allowed (delivery_verdict y.user.rules s sub.queue) in
        ap (λ b. (pointwise nat_eq sub.account account && has) && (b && lets_through s sub.queue (session_of w.sessions sub.conn))) hears
        ∙ ap (λ o. (pointwise nat_eq sub.account account && has) && (heard && lets_through s sub.queue o)) e
        ∙ ap (λ (a : List ℕ). (pointwise nat_eq a account && has) && (heard && lets)) same
        ∙ reordered (pointwise nat_eq y.user.account account) has heard lets
        ∙ sym (ap (λ u. (has && heard) && may_receive account s sub.queue u) user)

-- an outbox takes no more than it has room for
bounded : (ws ds : List Delivery) (capacity bound : ℕ) → (capacity ≡ bound) × (length ws ≤ bound) → length (ws ++ take (capacity - length ws) ds) ≤ bound
bounded ws ds capacity bound h = omega (arith, h, length-append ws (take (capacity - length ws) ds), length-take (capacity - length ws) ds)

-- and its session keeps what it keeps, whatever it gets
pub receives-keeps : (capacity now : ℕ) (by : By) (conn : ℕ) (s : List Token) (ss : List Sending) → KeepsSession capacity now (receives_of now by conn s ss)
receives-keeps capacity now by conn s ss = record {
  conn = λ z. refl;
  user = λ z. refl;
  outbox = λ z is. (is.0, bounded z.outbox.waiting _ z.outbox.capacity capacity is);
  grants = λ z is. kept_after now (is_response by conn z) s (take (room_in (Some z)) (map delivery_of (sent_to z.conn ss))) z.user.rules.allow_responses z.replies is;
}

-- who may be sent a message, is decided with reason
pub receiver-reason : (w : World) (s : List Token) (sub : Subscription) → IsReasonedFor w s sub
receiver-reason w s sub = here (user_at w sub.conn)
  where
    here : (o : Option User) → IfSome o (λ (u : User). IsJustifiedDelivery s sub.queue u.rules.subscribe (delivery_verdict u.rules s sub.queue))
    here None = tt
    here (Some u) = delivery_justified u.rules s sub.queue

-- the message of a session's connection, in a world of this policy
abbrev pub setting_of : World → ℕ → ℕ → Session → List Token → Message → ℕ → Setting
setting_of w now conn z asked m word =
    record { world = advanced w now; publisher = z; asked = asked; message = m; word = word; may = λ (account : List ℕ) (s : List Token) (sub : Subscription). is_for w conn account s sub }

pub is_setting : (w : World) (now conn : ℕ) (z : Session) (asked : List Token) (m : Message) (word : ℕ) → IsSound w → session_of w.sessions conn ≡ Some z → IsSetting (setting_of w now conn z asked m word)
is_setting w now conn z asked m word sound at = record {
  admits = λ account s.
      All-weaker (λ (sub : Subscription). account_of (user_at w sub.conn) ≡ Some sub.account) (λ sub. is_admitted w.sessions z (view_of account s m) sub ≡ is_for w conn account s sub)
      (λ sub owned. admitted-same w conn z m account s sub sound at owned) w.subscriptions sound.accounts;
  apart = sound.sids;
}

-- ---- what a view gives

-- somebody may be sent a request, or nobody
some-is : (subs : List Subscription) → has_some subs ≡ not (is_nil subs)
some-is [] = refl
some-is (sub ∷ subs) = refl

module _ (w : World) (at conn : ℕ) (z : Session) (asked : List Token) (m : Message) (word : ℕ) (sound : IsSound w) (done : List ViewPart) (now : Stage) (is : IsBehind (setting_of w at conn z asked m word) done now) where
  abbrev c : Setting
  c = setting_of w at conn z asked m word

  abbrev later : ℕ
  later = max w.moment at

  -- it goes to those that it is for
  given : (v : ViewItem) (seen : View) (opens : Option Opening) → IsGivenTo w conn word done (part_by c now v (Delivered seen opens))
  given v seen opens = record {
    served = subst (λ (l : List Item). AreServed word (filter (λ (sub : Subscription). is_for w conn seen.account seen.message.subject sub && is_to_receive (received_more l sub)) w.subscriptions) (whom c now.told (Delivered seen opens))) is.told
        (are_served word (able c now.told seen.account seen.message.subject)
        (AllPairs-filter (λ (s t : Subscription). s.id < t.id) (λ (sub : Subscription). is_for w conn seen.account seen.message.subject sub && is_to_receive (received_more now.told sub)) w.subscriptions sound.ids));
    reasons = λ k d h. receiver-reason w seen.message.subject (get_or w.subscriptions k d);
    one_each = named-each c now seen opens;
  }

  -- so does a request, with the subject of its route
  requested : (v : ViewItem) (account : List ℕ) (s : List Token) (row : Row) (reply : Option (List Token)) →
      IsRequest w later conn m word done (part_by c now v (of_request c now account s row reply)) account s row reply
  requested v account s row None = (refl, refl, given v (view_of account s m) None)
  requested v account s row (Some reply) =
      subst (λ some. IsRequestTo some (is_full 1 later (exporter_of account before)) w later conn m word done part account s row reply)
      (sym (some-is (able c now.told account s)) ∙ ap (λ (l : List Item). has_some (able c l account s)) is.told)
      (subst (λ routes. IsRequestTo (not (is_nil (able c now.told account s))) (is_full 1 later (exporter_of account routes)) w later conn m word done part account s row reply) is.routes
      (here (is_nil (able c now.told account s)) (is_full 1 later (exporter_of account now.routes))))
    where
      before : List (Name × Exporter)
      before = routes_behind (pruned later w.routes) done

      part : ViewPart
      part = part_by c now v (of_request c now account s row (Some reply))

      here : (nobody full : Bool) → IsRequestTo (not nobody) full w later conn m word done (part_by c now v (of_reply nobody full c now.routes account s row reply)) account s row reply
      here true full = (refl, refl, refl)
      here false true = (refl, refl, refl)
      here false false = (
        ap (λ (routes : List (Name × Exporter)). view_with account s (Some (next_subject word (exporter_of account routes))) m) is.routes,
        refl,
        given v (view_with account s (Some (next_subject word (exporter_of account now.routes))) m) (Some record { exporter = account; route = route_for w.policy row reply word later }),
      )

  -- a view gives the message to those that it is for, and a row that is reported to nobody
  pub is_part : (v : ViewItem) → IsViewPart w later conn m word done (part_in c now v)
  is_part (At account s Own) = (refl, refl, given (At account s Own) (view_of account s m) None)
  is_part (At account s (Stream row)) = (refl, refl, given (At account s (Stream row)) (view_of account s m) None)
  is_part (At account s (Service row)) = requested (At account s (Service row)) account s row m.reply
  is_part (At account s (Response row)) = (refl, refl, given (At account s (Response row)) (view_with account s None m) None)
  is_part (TooLong row) = (refl, refl, refl)

-- ---- the routes

-- what a view opens is opened where its exporter isn't full
stage-routed : (c : Setting) (now : Stage) (v : ViewItem) → EachRouted c.world.moment now.routes → EachRouted c.world.moment (behind c now (fate c now v)).routes
stage-routed c now (At account s Own) are = are
stage-routed c now (At account s (Stream row)) are = are
stage-routed c now (At account s (Service row)) are = by_reply c.message.reply
  where
    by_reply : (reply : Option (List Token)) → EachRouted c.world.moment (behind c now (of_request c now account s row reply)).routes
    by_reply None = are
    by_reply (Some reply) = here (is_nil (able c now.told account s)) (is_full 1 c.world.moment (exporter_of account now.routes)) refl
      where
        here : (nobody full : Bool) → is_full 1 c.world.moment (exporter_of account now.routes) ≡ full → EachRouted c.world.moment (behind c now (of_reply nobody full c now.routes account s row reply)).routes
        here true full is = are
        here false true is = are
        here false false is = routed-opened c.world.moment account (route_for c.world.policy row reply c.word c.world.moment) now.routes refl is are
stage-routed c now (At account s (Response row)) are = are
stage-routed c now (TooLong row) are = are

pub stages-routed : (c : Setting) (now : Stage) (vs : List ViewItem) → EachRouted c.world.moment now.routes → EachRouted c.world.moment (stage_in c now vs).routes
stages-routed c now [] are = are
stages-routed c now (v ∷ vs) are = stages-routed c (behind c now (fate c now v)) vs (stage-routed c now v are)

-- and it is for a row of the policy
stage-rows : (c : Setting) (now : Stage) (v : ViewItem) → IsByRow c.world.policy v → EachRoute (IsOfRow c.world.policy) now.routes → EachRoute (IsOfRow c.world.policy) (behind c now (fate c now v)).routes
stage-rows c now (At account s Own) by are = are
stage-rows c now (At account s (Stream row)) by are = are
stage-rows c now (At account s (Service row)) by are = by_reply c.message.reply
  where
    by_reply : (reply : Option (List Token)) → EachRoute (IsOfRow c.world.policy) (behind c now (of_request c now account s row reply)).routes
    by_reply None = are
    by_reply (Some reply) = here (is_nil (able c now.told account s)) (is_full 1 c.world.moment (exporter_of account now.routes))
      where
        here : (nobody full : Bool) → EachRoute (IsOfRow c.world.policy) (behind c now (of_reply nobody full c now.routes account s row reply)).routes
        here true full = are
        here false true = are
        here false false =
            each-opened (IsOfRow c.world.policy) account (route_for c.world.policy row reply c.word c.world.moment) now.routes
            (route-of c.world.policy account row reply c.word c.world.moment ((exporter_of account now.routes).last + 1) by) are
stage-rows c now (At account s (Response row)) by are = are
stage-rows c now (TooLong row) by are = are

pub stages-rows : (c : Setting) (now : Stage) (vs : List ViewItem) → All (IsByRow c.world.policy) vs → EachRoute (IsOfRow c.world.policy) now.routes → EachRoute (IsOfRow c.world.policy) (stage_in c now vs).routes
stages-rows c now [] by are = are
stages-rows c now (v ∷ vs) by are =
    stages-rows c (behind c now (fate c now v)) vs (All-tail (IsByRow c.world.policy) v vs by) (stage-rows c now v (All-head (IsByRow c.world.policy) v vs by) are)
