-- What no publish changes: the number of the last entry, and whose each session is.
use Rattle.std.proofs.Common.{◌≡◌, ◌∙◌, ◌==◌, ◌&&◌, ◌+◌, ℕ, Bool, true, false, not, cond, List, [], ◌∷◌, ◌++◌, filter, length, Option, Some, None, Ok, Err, ap, sym, refl, subst}
use Rattle.std.specs.Prelude.{All, IfSome, nat_eq, nat_le, nat_lt}
use Rattle.std.specs.Cmp.Lexicographic.{bytes_decides, pointwise}
use Rattle.std.proofs.lemmas.Bool.{and_parts}
use Rattle.std.proofs.lemmas.List.Elements.{All-nil, All-cons, All-head, All-tail, All-append, All-filter, All-map, All-weaker}
use Rattle.subjects.specs.Subject.{Token}
use Rattle.policy_doc.specs.declared.exports.document.Row.{Row}
use Rattle.permissions.specs.Verdicts.{subscribe_verdict}
use Rattle.permissions.specs.declared.verdict.By.{By}
use Rattle.permissions.specs.declared.verdict.By.TheVariants.{All as AllowsAll, Index, Grant}
use Rattle.permissions.specs.declared.verdict.Verdict.{Verdict}
use Rattle.permissions.specs.declared.verdict.Verdict.TheVariants.{Allowed, DeniedBy, NoAllow, NoQueueAllow}
use Rattle.policy_doc.specs.declared.document.PolicyDoc.{PolicyDoc}
use Rattle.policy_ready.specs.Users.{is_same_user, user_with_password, users_of}
use Rattle.policy_ready.specs.declared.ready.User.{User}
use Rattle.policy_ready.specs.imports.Across.{views}
use Rattle.events.specs.declared.answer.Item.TheVariants.{Unmapped as UnmappedItem, MappedTooLong}
use Rattle.events.specs.declared.answer.Item.{Item}
use Rattle.policy_ready.specs.declared.imports.view.ViewItem.{ViewItem}
use Rattle.policy_ready.specs.declared.imports.view.ViewItem.TheVariants.{At, TooLong as Uncrossed}
use Rattle.policy_ready.specs.declared.imports.view.Way.TheVariants.{Own, Stream, Service, Response}
use Rattle.service_exporter.specs.Limit.{is_full}
use Rattle.service_routes.specs.Routes.{exporter_of, opened}
use Rattle.events.specs.Messages.{Message}
use Rattle.events.specs.declared.answer.Addressed.{Addressed}
use Rattle.events.specs.declared.answer.Outcome.{Outcome}
use Rattle.events.specs.declared.answer.Outcome.TheVariants.{Subscribed, SameSid, SubLimit}
use Rattle.events.specs.declared.refusal.HubRefusal.TheVariants.{SessionLimit}
use Rattle.events.specs.declared.event.Command.{Command}
use Rattle.events.specs.declared.event.Command.TheVariants.{Connect, Sub, Unsub, Pub, Take, Close, Reload}
use Rattle.world_sessions.specs.deliveries.Sessions.{session_of, with_session, new_session, drained}
use Rattle.world_sessions.specs.deliveries.Delivered.{after_offer, delivered, noting, offered}
use Rattle.world_sessions.specs.deliveries.Replying.{responding, ending}
use Rattle.world_sessions.specs.declared.deliveries.session.Session.{Session}
use Rattle.world_sessions.specs.Renewal.{renewed, stays, user_again_of, with_user}
use Rattle.world_subscriptions.specs.Subscriptions.{has_all, stands, subscription_of}
use Rattle.world_routing.specs.World.{World}
use Rattle.world_routing.specs.Granting.{counted_on, ended_on, verdict_on}
use Rattle.world_routing.specs.Routing.{View, admitted, deliveries, in_view, in_views, is_nil, requested, requested_by, routed, view_of, view_with}
use Rattle.world.specs.Routing.{next_subject, responses_on, route_for}
use Rattle.policy_ready.specs.Drawing.{mapped_by}
use Rattle.policy_ready.specs.Mapped.{Mapped}
use Rattle.policy_ready.specs.Mapped.TheVariants.{Same, To, Unmapped, TooLong}
use Rattle.world.specs.Routing.{under_subject}
use Rattle.world_routing.specs.Publishing.{in_session, mapped_to, published, seen_as, seen_nowhere}
use Rattle.world.specs.Transition.{closed, connected, in_new_session, moved, subscribed, taken, unsubscribed}
use Rattle.tenant_laws.specs.worlds.Tenants.{Tenants}
use Rattle.tenant_laws.specs.worlds.Alike.{IsOwnSession}
use Rattle.tenant_laws.specs.worlds.Laws.{HasOwnSessions, KeepsApart, SessionsStayApart}
use Rattle.tenant_laws.proofs.worlds.Commands.{found_all}

-- a world has the same last number as another, and its sessions are as they were in the tests that follow
pub record HasStood (t : Tenants) (w after : World) : Type 0 where
  pub number : after.number ≡ w.number
  pub sessions : All (IsOwnSession t) w.sessions → All (IsOwnSession t) after.sessions

module _ (t : Tenants) where
  changed_all : (f : Session → Session) → ((z : Session) → IsOwnSession t z → IsOwnSession t (f z)) → (conn : ℕ) (zs : List Session) → All (IsOwnSession t) zs → All (IsOwnSession t) (with_session f conn zs)
  changed_all f keeps conn [] all = all
  changed_all f keeps conn (z ∷ zs) all = by (z.conn == conn) (changed_all f keeps conn zs (All-tail (IsOwnSession t) z zs all))
    where
      by : (b : Bool) → All (IsOwnSession t) (with_session f conn zs) → All (IsOwnSession t) (cond b (f z ∷ zs) (z ∷ with_session f conn zs))
      by true later = All-cons (IsOwnSession t) (f z) zs (keeps z (All-head (IsOwnSession t) z zs all)) (All-tail (IsOwnSession t) z zs all)
      by false later = All-cons (IsOwnSession t) z (with_session f conn zs) (All-head (IsOwnSession t) z zs all) later

  offered_own : (a : Addressed) (now : ℕ) (z : Session) → IsOwnSession t z → IsOwnSession t (offered a.delivery a.noted now z)
  offered_own a now z is = by (nat_lt (length z.outbox.waiting) z.outbox.capacity)
    where
      by : (b : Bool) → IsOwnSession t (cond b (record z { outbox = record z.outbox { waiting = z.outbox.waiting ++ a.delivery ∷ [] }; replies = noting a.noted now z.replies }) (record z { missed = true }))
      by true = is
      by false = is

  delivered_all : (now : ℕ) (ds : List Addressed) (zs : List Session) → All (IsOwnSession t) zs → All (IsOwnSession t) (delivered now ds zs).0
  delivered_all now [] zs all = all
  delivered_all now (a ∷ ds) zs all = delivered_all now ds (after_offer now a zs) (changed_all (offered a.delivery a.noted now) (λ z is. offered_own a now z is) a.conn zs all)

  counted_all : (by : By) (conn : ℕ) (s : List Token) (zs : List Session) → All (IsOwnSession t) zs → All (IsOwnSession t) (counted_on by conn s zs)
  counted_all AllowsAll conn s zs all = all
  counted_all (Index i) conn s zs all = all
  counted_all Grant conn s zs all = changed_all (responding s) (λ z is. is) conn zs all

  ended_all : (by : By) (conn : ℕ) (s : List Token) (zs : List Session) → All (IsOwnSession t) zs → All (IsOwnSession t) (ended_on by conn s zs)
  ended_all AllowsAll conn s zs all = all
  ended_all (Index i) conn s zs all = all
  ended_all Grant conn s zs all = changed_all (ending s) (λ z is. is) conn zs all

  module _ (zs : List Session) (publisher : Session) (m : Message) (word : ℕ) where
    routed_stood : (w : World) (v : View) → HasStood t w (routed zs w publisher v word).1
    routed_stood w v = record { number = refl; sessions = λ all. delivered_all w.moment (deliveries zs w publisher v word) w.sessions all }

    requested_stood : (w : World) (account : List ℕ) (s : List Token) (row : Row) (reply : Option (List Token)) → HasStood t w (requested zs w publisher m word account s row reply).1
    requested_stood w account s row None = routed_stood w (view_of account s m)
    requested_stood w account s row (Some reply) = by (is_nil (admitted zs w publisher (view_of account s m))) (is_full 1 w.moment (exporter_of account w.routes))
      where
        by : (a b : Bool) → HasStood t w (requested_by a b zs w publisher m word account s row reply).1
        by true b = record { number = refl; sessions = λ all. all }
        by false true = record { number = refl; sessions = λ all. all }
        by false false =
            let v : View = view_with account s (Some (next_subject word (exporter_of account w.routes))) m in
            let w1 : World = record w { routes = opened account (route_for w.policy row reply word w.moment) w.routes } in
            record { number = refl; sessions = λ all. delivered_all w.moment (deliveries zs w1 publisher v word) w.sessions all }

    view_stood : (w : World) (v : ViewItem) → HasStood t w (in_view zs w publisher m word v).1
    view_stood w (Uncrossed row) = record { number = refl; sessions = λ all. all }
    view_stood w (At account s Own) = routed_stood w (view_of account s m)
    view_stood w (At account s (Stream row)) = routed_stood w (view_of account s m)
    view_stood w (At account s (Service row)) = requested_stood w account s row m.reply
    view_stood w (At account s (Response row)) = routed_stood w (view_with account s None m)

    views_stood : (w : World) (vs : List ViewItem) → HasStood t w (in_views zs w publisher m word vs).1
    views_stood w [] = record { number = refl; sessions = λ all. all }
    views_stood w (v ∷ vs) =
        let first : HasStood t w (in_view zs w publisher m word v).1 = view_stood w v in
        let rest : HasStood t (in_view zs w publisher m word v).1 (in_views zs (in_view zs w publisher m word v).1 publisher m word vs).1 = views_stood (in_view zs w publisher m word v).1 vs in
        record { number = rest.number ∙ first.number; sessions = λ all. rest.sessions (first.sessions all) }

  seen_stood : (w : World) (z : Session) (by : By) (asked : List Token) (m : Message) (word : ℕ) → HasStood t w (seen_as w z by asked m word).1
  seen_stood w z by asked m word =
      let w0 : World = record w { sessions = counted_on by z.conn asked w.sessions } in
      let vs : List ViewItem = views w.policy z.user.account m.subject (responses_on w.routes z.user.account m.subject) in
      let after : HasStood t w0 (in_views w.sessions w0 z m word vs).1 = views_stood w.sessions z m word w0 vs in
      record { number = after.number; sessions = λ all. ended_all by z.conn asked (in_views w.sessions w0 z m word vs).1.sessions (after.sessions (counted_all by z.conn asked w.sessions all)) }

  nowhere_stood : (w : World) (z : Session) (by : By) (asked : List Token) (item : Item) → HasStood t w (seen_nowhere w z by asked item).1
  nowhere_stood w z by asked item =
      record { number = refl; sessions = λ all. ended_all by z.conn asked (counted_on by z.conn asked w.sessions) (counted_all by z.conn asked w.sessions all) }

  mapped_stood : (w : World) (z : Session) (by : By) (m : Message) (word : ℕ) (mapped : Mapped) → HasStood t w (mapped_to w z by m word mapped).1
  mapped_stood w z by m word Same = seen_stood w z by m.subject m word
  mapped_stood w z by m word (To s) = seen_stood w z by m.subject (under_subject s m) word
  mapped_stood w z by m word Unmapped = nowhere_stood w z by m.subject UnmappedItem
  mapped_stood w z by m word (TooLong index) = nowhere_stood w z by m.subject (MappedTooLong index)

  published_stood : (w : World) (z : Session) (m : Message) (word : ℕ) (v : Verdict) → HasStood t w (published w z m word v).1
  published_stood w z m word (DeniedBy i) = record { number = refl; sessions = λ all. all }
  published_stood w z m word NoAllow = record { number = refl; sessions = λ all. all }
  published_stood w z m word (NoQueueAllow i) = record { number = refl; sessions = λ all. all }
  published_stood w z m word (Allowed by) = mapped_stood w z by m word (mapped_by z.user.mappings m.subject word)

  -- ---- each command

  in_session_stays : (w : World) (conn : ℕ) (f : Session → Outcome × World) → ((z : Session) → All (IsOwnSession t) (f z).1.sessions) → HasOwnSessions t (in_session (session_of w.sessions conn) f)
  in_session_stays w conn f each = by (session_of w.sessions conn)
    where
      by : (o : Option Session) → HasOwnSessions t (in_session o f)
      by None = tt
      by (Some z) = each z

  subscribed_same : (w : World) (conn : ℕ) (account : List ℕ) (p : List Token) (queue : Option (List Token)) (sid : List ℕ) (v : Verdict) → (subscribed w conn account p queue sid v).1.sessions ≡ w.sessions
  subscribed_same w conn account p queue sid (DeniedBy i) = refl
  subscribed_same w conn account p queue sid NoAllow = refl
  subscribed_same w conn account p queue sid (NoQueueAllow i) = refl
  subscribed_same w conn account p queue sid (Allowed by) = cases (stands w.subscriptions conn sid) (has_all w.subscriptions conn)
    where
      cases : (a b : Bool) → (let r : Outcome × World = cond a (SameSid, w) (cond b (SubLimit, w) (Subscribed, record w { subscriptions = w.subscriptions ++ subscription_of (w.number + 1) conn account p queue sid ∷ [] })) in r.1.sessions) ≡ w.sessions
      cases true b = refl
      cases false true = refl
      cases false false = refl

  connected_stays : (w : World) (conn : ℕ) (echo : Bool) → All (IsOwnSession t) w.sessions → (u : Option User) → IfSome u (λ (v : User). t.connections conn ≡ t.accounts v.account) → (o : Option Session) →
      HasOwnSessions t (in_new_session w o (connected w conn echo u))
  connected_stays w conn echo all u of (Some z) = tt
  connected_stays w conn echo all u of None = by u of (nat_le 4096 (length w.sessions))
    where
      by : (u : Option User) → IfSome u (λ (v : User). t.connections conn ≡ t.accounts v.account) → (b : Bool) → HasOwnSessions t (cond b (Err SessionLimit) (Ok (connected w conn echo u)))
      by u of true = tt
      by None of false = all
      by (Some v) of false = All-append (IsOwnSession t) w.sessions (new_session conn v echo w.capacity ∷ []) all (All-cons (IsOwnSession t) (new_session conn v echo w.capacity) [] of (All-nil (IsOwnSession t)))

  renewed_own : (now : ℕ) (doc : PolicyDoc) (z : Session) → IsOwnSession t z → IsOwnSession t (renewed now doc z)
  renewed_own now doc z is = by (user_again_of doc z) (found_all (λ (u : User). Unit {0}) (λ u. is_same_user u z.user) (users_of doc) (λ k d h. tt))
    where
      by : (o : Option User) → IfSome o (λ u. Unit {0} × (is_same_user u z.user ≡ true)) → IsOwnSession t (with_user now z o)
      by None of = is
      by (Some u) of =
          is ∙ ap t.accounts (sym ((bytes_decides u.account z.user.account).0 (and_parts (pointwise nat_eq u.user z.user.user && pointwise nat_eq u.password z.user.password) (pointwise nat_eq u.account z.user.account) of.1).1))

  pub stay_apart : (w : World) (c : Command) → All (IsOwnSession t) w.sessions → KeepsApart t w.policy c → HasOwnSessions t (moved w c)
  stay_apart w (Connect conn name password echo) all of = connected_stays w conn echo all (user_with_password w.policy name password) of (session_of w.sessions conn)
  stay_apart w (Sub conn p queue sid) all of =
      in_session_stays w conn (λ z. subscribed w conn z.user.account p queue sid (subscribe_verdict z.user.rules p queue))
      (λ z. subst (All (IsOwnSession t)) (sym (subscribed_same w conn z.user.account p queue sid (subscribe_verdict z.user.rules p queue))) all)
  stay_apart w (Unsub conn sid most) all of = in_session_stays w conn (λ z. unsubscribed w conn sid most) (λ z. all)
  stay_apart w (Pub conn m word) all of =
      in_session_stays w conn (λ z. published w z m word (verdict_on w.moment z m.subject)) (λ z. let stood = published_stood w z m word (verdict_on w.moment z m.subject) in stood.sessions all)
  stay_apart w (Take conn most) all of = in_session_stays w conn (taken w conn most) (λ z. changed_all (drained most) (λ y is. is) conn w.sessions all)
  stay_apart w (Close conn) all of = in_session_stays w conn (λ z. closed w conn) (λ z. All-filter (λ (y : Session). not (y.conn == conn)) (IsOwnSession t) w.sessions all)
  stay_apart w (Reload doc) all of =
      All-map (IsOwnSession t) (renewed w.moment doc) (filter (stays doc) w.sessions)
      (All-filter (stays doc) (λ z. IsOwnSession t (renewed w.moment doc z)) w.sessions (All-weaker (IsOwnSession t) (λ z. IsOwnSession t (renewed w.moment doc z)) (λ z is. renewed_own w.moment doc z is) w.sessions all))

pub sessions_stay_apart : SessionsStayApart
sessions_stay_apart t w c all of = stay_apart t w c all of

pub number_after : (w : World) (z : Session) (m : Message) (word : ℕ) (v : Verdict) → (published w z m word v).1.number ≡ w.number
number_after w z m word v = (published_stood record { accounts = λ name. true; connections = λ conn. true } w z m word v).number
