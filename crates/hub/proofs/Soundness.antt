-- What every hub keeps is kept by each kind of change.
use Rattle.std.proofs.Common.{◌≡◌, ◌∙◌, ◌==◌, ◌&&◌, ℕ, ◌+◌, ◌<◌, ◌≤◌, Bool, true, false, not, cond, List, [], ◌∷◌, ◌++◌, map, filter, length, get_or, Option, Some, None, ap, sym, refl, subst, arith, max}
use Rattle.std.specs.Prelude.{All, AllPairs, ◌≢◌, nat_le, nat_lt, nat_eq}
use Rattle.std.specs.Option.{option_map, option_or}
use Rattle.std.specs.Cmp.Lexicographic.{pointwise}
use Rattle.std.proofs.Math.Bool.{not-not}
use Rattle.std.proofs.lemmas.Bool.{eqb-true, eqb-false, leb-true, leb-false, lt-ltb, le-ltb}
use Rattle.std.proofs.lemmas.List.{length-map, length-append}
use Rattle.std.proofs.lemmas.List.Folds.{find-append}
use Rattle.std.proofs.lemmas.List.Filters.{length-filter_both}
use Rattle.std.proofs.lemmas.List.Elements.{All-push, All-map, All-filter, filter_agree, filter_passes, filter-append}
use Rattle.std.proofs.lemmas.List.Kept.{AllPairs-filter}
use Rattle.std.proofs.lemmas.List.Quantifiers.{all_pairs_push}
use Rattle.subjects.specs.Subject.{Token}
use Rattle.policy_doc.specs.declared.document.PolicyDoc.{PolicyDoc}
use Rattle.policy_ready.specs.Users.{user_named}
use Rattle.policy_ready.specs.declared.ready.User.{User}
use Rattle.service_exporter.specs.Routes.{Exporter}
use Rattle.service_routes.specs.Routes.{Name, pruned}
use Rattle.world_sessions.specs.deliveries.Sessions.{session_of, new_session}
use Rattle.world_sessions.specs.Renewal.{HaveOneUser}
use Rattle.world_sessions.specs.declared.deliveries.session.Session.{Session}
use Rattle.world_subscriptions.specs.Subscriptions.{subscription_of, stands, of_connection, has_all}
use Rattle.world_subscriptions.specs.Limit.{is_reached, has_ended, unended}
use Rattle.world_rows.specs.declared.subscription.Subscription.{Subscription}
use Rattle.world.specs.World.{World}
use Rattle.world.specs.Reload.{user_before, verdict_for, may_stand, AreEntitled}
use Rattle.hub.specs.Kept.{IsKeptTable}
use Rattle.hub.specs.Routes.{EachRoute, IsOfRow}
use Rattle.hub.specs.Sound.{IsSound, has_same_sid, user_behind, user_at, account_of, may_subscribe, HasAllowance, is_below, is_to_receive}
use Rattle.hub.proofs.Lists.{length-filter_twice, length-filter_map}
use Rattle.hub.proofs.Grants.{kept_none, kept_later}
use Rattle.hub.proofs.Routes.{EachRouted, routed-pruned}
use Rattle.hub.proofs.Rows.{each-pruned}
use Rattle.hub.proofs.Finds.{find-All, find-none, find-filter, find-map, any-none, AllPairs-map}

-- the world after an answered step that left these sessions, subscriptions and response routes; by most steps those routes stand
-- that live
abbrev pub next_with : World → ℕ → List Session → List Subscription → List (Name × Exporter) → World
next_with w now zs subs routes = record w { moment = max w.moment now; number = w.number + 1; sessions = zs; subscriptions = subs; routes = routes }

abbrev pub next : World → ℕ → List Session → List Subscription → World
next w now zs subs = next_with w now zs subs (pruned (max w.moment now) w.routes)

-- the facts of a session by itself, under a policy and a capacity
abbrev pub IsOfPolicy : PolicyDoc → Session → Type 0
IsOfPolicy doc z = user_named doc z.user.user ≡ Some z.user

abbrev pub HasBound : ℕ → Session → Type 0
HasBound capacity z = (z.outbox.capacity ≡ capacity) × (length z.outbox.waiting ≤ capacity)

abbrev pub IsApart : Session → Session → Type 0
IsApart y z = y.conn ≢ z.conn

abbrev pub HasTable : ℕ → Session → Type 0
HasTable now z = IsKeptTable now z.user.rules.allow_responses z.replies

-- the facts of a subscription that its connection's user decides
abbrev IsAllowed : PolicyDoc → List Session → Subscription → Type 0
IsAllowed doc zs s = may_subscribe (user_behind doc (session_of zs s.conn)) s.subject s.queue ≡ true

abbrev HasReasonHere : PolicyDoc → List Session → Subscription → Type 0
HasReasonHere doc zs s = HasAllowance (user_behind doc (session_of zs s.conn)) s.subject s.queue

abbrev pub IsStillToReceive : Subscription → Type 0
IsStillToReceive s = is_to_receive s ≡ true

abbrev pub HasCount : Subscription → Type 0
HasCount s = s.received ≤ 18446744073709551615

abbrev pub IsOwned : PolicyDoc → List Session → Subscription → Type 0
IsOwned doc zs s = account_of (user_behind doc (session_of zs s.conn)) ≡ Some s.account

-- no connection has more than 4,096 of the subscriptions
abbrev HasQuotas : List Subscription → Type 0
HasQuotas subs = (conn : ℕ) → length (of_connection conn subs) ≤ 4096

-- the user that a connection acts for is that of its session
pub user_at-session : (w : World) → IsSound w → (conn : ℕ) (z : Session) → session_of w.sessions conn ≡ Some z → user_at w conn ≡ Some z.user
user_at-session w sound conn z e =
    ap (user_behind w.policy) e ∙ find-All (IsOfPolicy w.policy) (λ y. y.conn == conn) w.sessions z sound.users e

-- so sessions of one user's name act for one user, who may have each of their subscriptions
pub entitled : (w : World) → IsSound w → AreEntitled w.sessions w.subscriptions
entitled w sound = (one_user, λ k d h. by_session (get_or w.subscriptions k d) (session_of w.sessions (get_or w.subscriptions k d).conn) refl (sound.subscriptions k d h))
  where
    some_is : (u v : User) → Some u ≡ Some v → u ≡ v
    some_is u v e = cc

    one_user : AllPairs HaveOneUser w.sessions
    one_user i j d below within same =
        some_is _ _ (sym (sound.users i d (omega (arith, below, within))) ∙ ap (user_named w.policy) same ∙ sound.users j d within)

    by_session : (s : Subscription) (o : Option Session) → session_of w.sessions s.conn ≡ o → may_subscribe (user_behind w.policy o) s.subject s.queue ≡ true → may_stand (verdict_for (user_before o) s) ≡ true
    by_session s None e may = may
    by_session s (Some z) e may =
        sym (ap (λ u. may_subscribe u s.subject s.queue) (find-All (IsOfPolicy w.policy) (λ y. y.conn == s.conn) w.sessions z sound.users e)) ∙ may

-- the numbers are at most the next
numbers-next : (w : World) → IsSound w → All (λ (s : Subscription). s.id ≤ w.number + 1) w.subscriptions
numbers-next w sound = λ k d h. let p = sound.numbers k d h in omega arith

-- and so is the epoch
epoch-next : (w : World) → IsSound w → w.epoch ≤ (w.number + 1) + 1
epoch-next w sound = let h = sound.epoch in omega arith

-- the grants are those of a later moment too
pub tables-next : (w : World) (now : ℕ) → IsSound w → All (HasTable (max w.moment now)) w.sessions
tables-next w now sound k d h =
    let z = get_or w.sessions k d in kept_later w.moment (max w.moment now) z.user.rules.allow_responses z.replies (omega arith) (sound.grants k d h)

-- and the response routes that live then
routes-next : (w : World) (now : ℕ) → IsSound w → EachRouted (max w.moment now) (pruned (max w.moment now) w.routes)
routes-next w now sound = routed-pruned w.moment (max w.moment now) w.routes (omega arith) sound.routes

-- each for a row of the policy
rows-next : (w : World) (now : ℕ) → IsSound w → EachRoute (IsOfRow w.policy) (pruned (max w.moment now) w.routes)
rows-next w now sound = each-pruned (IsOfRow w.policy) (max w.moment now) w.routes sound.rows

-- at another moment, with another number and other response routes
sound-at : (w : World) (moment number : ℕ) (routes : List (Name × Exporter)) → All (HasTable moment) w.sessions → All (λ (s : Subscription). s.id ≤ number) w.subscriptions → EachRouted moment routes → EachRoute (IsOfRow w.policy) routes → w.epoch ≤ number + 1 → IsSound w →
    IsSound (record w { moment = moment; number = number; routes = routes })
sound-at w moment number routes tables numbers routed rows epoch sound = record {
  policy = sound.policy;
  names = sound.names;
  limit = sound.limit;
  connections = sound.connections;
  users = sound.users;
  outboxes = sound.outboxes;
  grants = tables;
  subscriptions = sound.subscriptions;
  reasons = sound.reasons;
  accounts = sound.accounts;
  limits = sound.limits;
  counts = sound.counts;
  sids = sound.sids;
  quotas = sound.quotas;
  ids = sound.ids;
  numbers = numbers;
  routes = routed;
  rows = rows;
  epoch = epoch;
}

-- nothing has changed
pub sound-same : (w : World) (now : ℕ) → IsSound w → IsSound (next w now w.sessions w.subscriptions)
sound-same w now sound =
    sound-at w (max w.moment now) (w.number + 1) (pruned (max w.moment now) w.routes) (tables-next w now sound) (numbers-next w sound) (routes-next w now sound) (rows-next w now sound) (epoch-next w sound) sound

-- other response routes stand
pub sound-routes : (w : World) (routes : List (Name × Exporter)) → EachRouted w.moment routes → EachRoute (IsOfRow w.policy) routes → IsSound w → IsSound (record w { routes = routes })
sound-routes w routes routed rows sound = sound-at w w.moment w.number routes sound.grants sound.numbers routed rows sound.epoch sound

-- outboxes and grants have changed
pub record KeepsSession (capacity now : ℕ) (f : Session → Session) : Type 0 where
  pub conn : (z : Session) → (f z).conn ≡ z.conn
  pub user : (z : Session) → (f z).user ≡ z.user
  pub outbox : (z : Session) → HasBound capacity z → HasBound capacity (f z)
  pub grants : (z : Session) → HasTable now z → HasTable now (f z)

user_behind-map : (doc : PolicyDoc) (f : Session → Session) → ((z : Session) → (f z).user ≡ z.user) → (o : Option Session) → user_behind doc (option_map f o) ≡ user_behind doc o
user_behind-map doc f same None = refl
user_behind-map doc f same (Some z) = ap (λ (u : User). user_named doc u.user) (same z)

user-map : (doc : PolicyDoc) (f : Session → Session) (zs : List Session) → ((z : Session) → (f z).conn ≡ z.conn) → ((z : Session) → (f z).user ≡ z.user) → (conn : ℕ) →
    user_behind doc (session_of (map f zs) conn) ≡ user_behind doc (session_of zs conn)
user-map doc f zs same_conn same_user conn =
    ap (user_behind doc) (find-map (λ (z : Session). z.conn == conn) f zs (λ z. ap (λ n. n == conn) (same_conn z)))
    ∙ user_behind-map doc f same_user (session_of zs conn)

pub sound-map : (w : World) (now : ℕ) (f : Session → Session) → KeepsSession w.capacity (max w.moment now) f → IsSound w → IsSound (next w now (map f w.sessions) w.subscriptions)
sound-map w now f keeps sound = record {
  policy = sound.policy;
  names = sound.names;
  limit = omega (arith, length-map w.sessions f, sound.limit);
  connections = AllPairs-map IsApart f w.sessions (λ y z apart same. apart (sym (keeps.conn y) ∙ same ∙ keeps.conn z)) sound.connections;
  users = All-map (IsOfPolicy w.policy) f w.sessions (λ k d h. of_policy (get_or w.sessions k d) (sound.users k d h));
  outboxes = All-map (HasBound w.capacity) f w.sessions (λ k d h. keeps.outbox _ (sound.outboxes k d h));
  grants = All-map (HasTable (max w.moment now)) f w.sessions (λ k d h. keeps.grants _ (tables-next w now sound k d h));
  subscriptions = λ k d h. ap (λ u. may_subscribe u (get_or w.subscriptions k d).subject (get_or w.subscriptions k d).queue) (user_is (get_or w.subscriptions k d)) ∙ sound.subscriptions k d h;
  reasons = λ k d h. subst (λ u. HasAllowance u (get_or w.subscriptions k d).subject (get_or w.subscriptions k d).queue) (sym (user_is (get_or w.subscriptions k d))) (sound.reasons k d h);
  accounts = λ k d h. ap account_of (user_is (get_or w.subscriptions k d)) ∙ sound.accounts k d h;
  limits = sound.limits;
  counts = sound.counts;
  sids = sound.sids;
  quotas = sound.quotas;
  ids = sound.ids;
  numbers = numbers-next w sound;
  routes = routes-next w now sound;
  rows = rows-next w now sound;
  epoch = epoch-next w sound;
}
  where
    of_policy : (z : Session) → IsOfPolicy w.policy z → IsOfPolicy w.policy (f z)
    of_policy z is = ap (λ (u : User). user_named w.policy u.user) (keeps.user z) ∙ is ∙ ap (λ (u : User). Some u) (sym (keeps.user z))

    user_is : (s : Subscription) → user_behind w.policy (session_of (map f w.sessions) s.conn) ≡ user_behind w.policy (session_of w.sessions s.conn)
    user_is s = user-map w.policy f w.sessions keeps.conn keeps.user s.conn

-- a session is opened
none-allowed : (p : List Token) (queue : Option (List Token)) → may_subscribe None p queue ≡ true → ⊥
none-allowed p queue h = absurd (cc)

none-owned : (account : List ℕ) → account_of None ≡ Some account → ⊥
none-owned account h = absurd (cc)

-- what is known of a connection's user is known of it still
known-open : (P : Option User → Type 0) → (P None → ⊥) → (doc : PolicyDoc) (zs : List Session) (y : Session) (conn : ℕ) → P (user_behind doc (session_of zs conn)) → P (user_behind doc (session_of (zs ++ y ∷ []) conn))
known-open P never doc zs y conn is = by_session (session_of zs conn) refl is
  where
    by_session : (o : Option Session) → session_of zs conn ≡ o → P (user_behind doc o) → P (user_behind doc (session_of (zs ++ y ∷ []) conn))
    by_session None e h = absurd (never h)
    by_session (Some z) e h =
        subst (λ o. P (user_behind doc o)) (sym (find-append (λ (x : Session). x.conn == conn) zs (y ∷ []) ∙ ap (λ o. option_or o (session_of (y ∷ []) conn)) e)) h

pub sound-open : (w : World) (now conn : ℕ) (u : User) (echo : Bool) → session_of w.sessions conn ≡ None → nat_le 4096 (length w.sessions) ≡ false → user_named w.policy u.user ≡ Some u → IsSound w → IsSound (next w now (w.sessions ++ new_session conn u echo w.capacity ∷ []) w.subscriptions)
sound-open w now conn u echo free room is sound = record {
  policy = sound.policy;
  names = sound.names;
  limit = omega (arith, length-append w.sessions (new_session conn u echo w.capacity ∷ []), leb-false 4096 (length w.sessions) room);
  connections = all_pairs_push IsApart w.sessions (new_session conn u echo w.capacity) sound.connections (λ k d h same. eqb-false _ _ (find-none (λ (z : Session). z.conn == conn) w.sessions free k d h) same);
  users = All-push (IsOfPolicy w.policy) w.sessions (new_session conn u echo w.capacity) sound.users is;
  outboxes = All-push (HasBound w.capacity) w.sessions (new_session conn u echo w.capacity) sound.outboxes (refl, omega arith);
  grants = All-push (HasTable (max w.moment now)) w.sessions (new_session conn u echo w.capacity) (tables-next w now sound) (kept_none (max w.moment now) u.rules.allow_responses);
  subscriptions = λ k d h. known-open (λ v. may_subscribe v (get_or w.subscriptions k d).subject (get_or w.subscriptions k d).queue ≡ true) (none-allowed (get_or w.subscriptions k d).subject (get_or w.subscriptions k d).queue) w.policy w.sessions (new_session conn u echo w.capacity) (get_or w.subscriptions k d).conn (sound.subscriptions k d h);
  reasons = λ k d h. known-open (λ v. HasAllowance v (get_or w.subscriptions k d).subject (get_or w.subscriptions k d).queue) (λ none. none) w.policy w.sessions (new_session conn u echo w.capacity) (get_or w.subscriptions k d).conn (sound.reasons k d h);
  accounts = λ k d h. known-open (λ v. account_of v ≡ Some (get_or w.subscriptions k d).account) (none-owned (get_or w.subscriptions k d).account) w.policy w.sessions (new_session conn u echo w.capacity) (get_or w.subscriptions k d).conn (sound.accounts k d h);
  limits = sound.limits;
  counts = sound.counts;
  sids = sound.sids;
  quotas = sound.quotas;
  ids = sound.ids;
  numbers = numbers-next w sound;
  routes = routes-next w now sound;
  rows = rows-next w now sound;
  epoch = epoch-next w sound;
}

-- a subscription is added
quotas-add : (subs : List Subscription) (s : Subscription) → has_all subs s.conn ≡ false → HasQuotas subs → HasQuotas (subs ++ s ∷ [])
quotas-add subs s room quotas conn =
    omega (arith, ap (λ (xs : List Subscription). length xs) (filter-append (λ (t : Subscription). t.conn == conn) subs (s ∷ [])), length-append (of_connection conn subs) (of_connection conn (s ∷ [])), here (s.conn == conn) refl)
  where
    here : (b : Bool) → (s.conn == conn) ≡ b → length (of_connection conn subs) + length (cond b (s ∷ []) []) ≤ 4096
    here true is = omega (arith, leb-false 4096 (length (of_connection s.conn subs)) room, ap (λ n. length (of_connection n subs)) (eqb-true s.conn conn is))
    here false is = omega (arith, quotas conn)

pub sound-add : (w : World) (now conn : ℕ) (account : List ℕ) (p : List Token) (queue : Option (List Token)) (sid : List ℕ) → may_subscribe (user_at w conn) p queue ≡ true → HasAllowance (user_at w conn) p queue → account_of (user_at w conn) ≡ Some account → stands w.subscriptions conn sid ≡ false → has_all w.subscriptions conn ≡ false → IsSound w →
    IsSound (next w now w.sessions (w.subscriptions ++ subscription_of (w.number + 1) conn account p queue sid ∷ []))
sound-add w now conn account p queue sid may reason owned free room sound = record {
  policy = sound.policy;
  names = sound.names;
  limit = sound.limit;
  connections = sound.connections;
  users = sound.users;
  outboxes = sound.outboxes;
  grants = tables-next w now sound;
  subscriptions = All-push (IsAllowed w.policy w.sessions) w.subscriptions added sound.subscriptions may;
  reasons = All-push (HasReasonHere w.policy w.sessions) w.subscriptions added sound.reasons reason;
  accounts = All-push (IsOwned w.policy w.sessions) w.subscriptions added sound.accounts owned;
  limits = All-push IsStillToReceive w.subscriptions added sound.limits refl;
  counts = All-push HasCount w.subscriptions added sound.counts (omega arith);
  sids = all_pairs_push (λ (s t : Subscription). has_same_sid s t ≡ false) w.subscriptions added sound.sids (any-none (λ (s : Subscription). has_same_sid s added) w.subscriptions free);
  quotas = quotas-add w.subscriptions added room sound.quotas;
  ids = all_pairs_push (λ (s t : Subscription). s.id < t.id) w.subscriptions added sound.ids (λ k d h. let n = sound.numbers k d h in omega arith);
  numbers = All-push (λ (s : Subscription). s.id ≤ w.number + 1) w.subscriptions added (numbers-next w sound) (omega arith);
  routes = routes-next w now sound;
  rows = rows-next w now sound;
  epoch = epoch-next w sound;
}
  where
    added : Subscription
    added = subscription_of (w.number + 1) conn account p queue sid

-- no connection has more of those that stay than of all
pub quotas-filter : (p : Subscription → Bool) (subs : List Subscription) → HasQuotas subs → HasQuotas (filter p subs)
quotas-filter p subs quotas conn = omega (arith, length-filter_twice (λ (s : Subscription). s.conn == conn) p subs, quotas conn)

-- a connection's session and subscriptions go
not_of : (c conn : ℕ) → not (c == conn) ≡ true → (n : ℕ) → (n == c) ≡ true → not (n == conn) ≡ true
not_of c conn other n is = ap (λ m. not (m == conn)) (eqb-true n c is) ∙ other

user-close : (doc : PolicyDoc) (zs : List Session) (conn c : ℕ) → not (c == conn) ≡ true → user_behind doc (session_of (filter (λ (z : Session). not (z.conn == conn)) zs) c) ≡ user_behind doc (session_of zs c)
user-close doc zs conn c other =
    ap (user_behind doc) (find-filter (λ (z : Session). z.conn == c) (λ (z : Session). not (z.conn == conn)) zs (λ z. not_of c conn other z.conn))

pub sound-close : (w : World) (now conn : ℕ) → IsSound w →
    IsSound (next w now (filter (λ (z : Session). not (z.conn == conn)) w.sessions) (filter (λ (s : Subscription). not (s.conn == conn)) w.subscriptions))
sound-close w now conn sound = record {
  policy = sound.policy;
  names = sound.names;
  limit = omega (arith, length-filter_both (λ (z : Session). not (z.conn == conn)) (λ (z : Session). z.conn == conn) (λ z. sym (not-not (z.conn == conn))) w.sessions, sound.limit);
  connections = AllPairs-filter IsApart (λ (z : Session). not (z.conn == conn)) w.sessions sound.connections;
  users = All-filter (λ (z : Session). not (z.conn == conn)) (IsOfPolicy w.policy) w.sessions sound.users;
  outboxes = All-filter (λ (z : Session). not (z.conn == conn)) (HasBound w.capacity) w.sessions sound.outboxes;
  grants = All-filter (λ (z : Session). not (z.conn == conn)) (HasTable (max w.moment now)) w.sessions (tables-next w now sound);
  subscriptions = λ k d h. ap (λ u. may_subscribe u (get_or left k d).subject (get_or left k d).queue) (user_is k d h) ∙ All-filter stay (IsAllowed w.policy w.sessions) w.subscriptions sound.subscriptions k d h;
  reasons = λ k d h. subst (λ u. HasAllowance u (get_or left k d).subject (get_or left k d).queue) (sym (user_is k d h)) (All-filter stay (HasReasonHere w.policy w.sessions) w.subscriptions sound.reasons k d h);
  accounts = λ k d h. ap account_of (user_is k d h) ∙ All-filter stay (IsOwned w.policy w.sessions) w.subscriptions sound.accounts k d h;
  limits = All-filter stay IsStillToReceive w.subscriptions sound.limits;
  counts = All-filter stay HasCount w.subscriptions sound.counts;
  sids = AllPairs-filter (λ (s t : Subscription). has_same_sid s t ≡ false) stay w.subscriptions sound.sids;
  quotas = quotas-filter stay w.subscriptions sound.quotas;
  ids = AllPairs-filter (λ (s t : Subscription). s.id < t.id) stay w.subscriptions sound.ids;
  numbers = All-filter stay (λ (s : Subscription). s.id ≤ w.number + 1) w.subscriptions (numbers-next w sound);
  routes = routes-next w now sound;
  rows = rows-next w now sound;
  epoch = epoch-next w sound;
}
  where
    stay : Subscription → Bool
    stay s = not (s.conn == conn)

    left : List Subscription
    left = filter stay w.subscriptions

    user_is : (k : ℕ) (d : Subscription) → k < length left → user_behind w.policy (session_of (filter (λ (z : Session). not (z.conn == conn)) w.sessions) (get_or left k d).conn) ≡ user_behind w.policy (session_of w.sessions (get_or left k d).conn)
    user_is k d h = user-close w.policy w.sessions conn (get_or left k d).conn (filter_passes stay w.subscriptions k d h)

-- subscriptions have counted a message or taken a limit, and those that have ended are gone
pub record KeepsSubscription (f : Subscription → Subscription) : Type 0 where
  pub id : (s : Subscription) → (f s).id ≡ s.id
  pub conn : (s : Subscription) → (f s).conn ≡ s.conn
  pub account : (s : Subscription) → (f s).account ≡ s.account
  pub subject : (s : Subscription) → (f s).subject ≡ s.subject
  pub queue : (s : Subscription) → (f s).queue ≡ s.queue
  pub sid : (s : Subscription) → (f s).sid ≡ s.sid
  pub received : (s : Subscription) → HasCount s → HasCount (f s)

-- what is the same of both is the same of whichever is taken
pub either : {X Y : Type 0} (part : X → Y) (b : Bool) (x y : X) → part x ≡ part y → part (cond b x y) ≡ part y
either part true x y same = same
either part false x y same = refl

either-holds : {X : Type 0} (P : X → Type 0) (b : Bool) (x y : X) → P x → P y → P (cond b x y)
either-holds P true x y h k = h
either-holds P false x y h k = k

-- what keeps each subscription keeps each where it is done to some alone
pub keeps-where : (test : Subscription → Bool) (f : Subscription → Subscription) → KeepsSubscription f → KeepsSubscription (λ s. cond (test s) (f s) s)
keeps-where test f keeps = record {
  id = λ s. either (λ (t : Subscription). t.id) (test s) (f s) s (keeps.id s);
  conn = λ s. either (λ (t : Subscription). t.conn) (test s) (f s) s (keeps.conn s);
  account = λ s. either (λ (t : Subscription). t.account) (test s) (f s) s (keeps.account s);
  subject = λ s. either (λ (t : Subscription). t.subject) (test s) (f s) s (keeps.subject s);
  queue = λ s. either (λ (t : Subscription). t.queue) (test s) (f s) s (keeps.queue s);
  sid = λ s. either (λ (t : Subscription). t.sid) (test s) (f s) s (keeps.sid s);
  received = λ s few. either-holds HasCount (test s) (f s) s (keeps.received s few) few;
}

allowed-again : (doc : PolicyDoc) (zs : List Session) (f : Subscription → Subscription) → KeepsSubscription f → (s : Subscription) → IsAllowed doc zs s → IsAllowed doc zs (f s)
allowed-again doc zs f keeps s is =
    ap (λ n. may_subscribe (user_behind doc (session_of zs n)) (f s).subject (f s).queue) (keeps.conn s)
    ∙ ap (λ p. may_subscribe (user_behind doc (session_of zs s.conn)) p (f s).queue) (keeps.subject s)
    ∙ ap (λ queue. may_subscribe (user_behind doc (session_of zs s.conn)) s.subject queue) (keeps.queue s)
    ∙ is

reason-again : (doc : PolicyDoc) (zs : List Session) (f : Subscription → Subscription) → KeepsSubscription f → (s : Subscription) → HasReasonHere doc zs s → HasReasonHere doc zs (f s)
reason-again doc zs f keeps s is =
    subst (λ n. HasAllowance (user_behind doc (session_of zs n)) (f s).subject (f s).queue) (sym (keeps.conn s))
    (subst (λ p. HasAllowance (user_behind doc (session_of zs s.conn)) p (f s).queue) (sym (keeps.subject s))
    (subst (λ queue. HasAllowance (user_behind doc (session_of zs s.conn)) s.subject queue) (sym (keeps.queue s)) is))

owned-again : (doc : PolicyDoc) (zs : List Session) (f : Subscription → Subscription) → KeepsSubscription f → (s : Subscription) → IsOwned doc zs s → IsOwned doc zs (f s)
owned-again doc zs f keeps s is =
    ap (λ n. account_of (user_behind doc (session_of zs n))) (keeps.conn s) ∙ is ∙ ap (λ (a : List ℕ). Some a) (sym (keeps.account s))

pub apart-again : (f : Subscription → Subscription) → KeepsSubscription f → (s t : Subscription) → has_same_sid s t ≡ false → has_same_sid (f s) (f t) ≡ false
apart-again f keeps s t is =
    ap (λ n. (n == (f t).conn) && pointwise nat_eq (f s).sid (f t).sid) (keeps.conn s)
    ∙ ap (λ n. (s.conn == n) && pointwise nat_eq (f s).sid (f t).sid) (keeps.conn t)
    ∙ ap (λ sid. (s.conn == t.conn) && pointwise nat_eq sid (f t).sid) (keeps.sid s)
    ∙ ap (λ sid. (s.conn == t.conn) && pointwise nat_eq s.sid sid) (keeps.sid t)
    ∙ is

rising-again : (f : Subscription → Subscription) → KeepsSubscription f → (s t : Subscription) → s.id < t.id → (f s).id < (f t).id
rising-again f keeps s t is = let e = keeps.id s in let g = keeps.id t in omega arith

below-again : (n : ℕ) (f : Subscription → Subscription) → KeepsSubscription f → (s : Subscription) → s.id ≤ n → (f s).id ≤ n
below-again n f keeps s is = let e = keeps.id s in omega arith

quotas-again : (f : Subscription → Subscription) → KeepsSubscription f → (subs : List Subscription) → HasQuotas subs → HasQuotas (map f subs)
quotas-again f keeps subs quotas conn =
    omega (arith, length-filter_map (λ (s : Subscription). s.conn == conn) f subs (λ s. ap (λ n. n == conn) (keeps.conn s)), quotas conn)

-- what has not reached its limit is below it
below-limit : (limit : Option ℕ) (received : ℕ) → not (is_reached limit received) ≡ is_below limit received
below-limit None received = refl
below-limit (Some most) received = here (nat_le most received) refl
  where
    here : (b : Bool) → nat_le most received ≡ b → not b ≡ nat_lt received most
    here true is = sym (le-ltb received most (leb-true most received is))
    here false is = sym (lt-ltb received most (leb-false most received is))

-- those that have not ended are those that are still to receive
pub unended-same : (subs : List Subscription) → unended subs ≡ filter is_to_receive subs
unended-same subs = filter_agree (λ (s : Subscription). not (has_ended s)) is_to_receive (λ s. below-limit s.most s.received) subs

pub sound-limits : (w : World) (f : Subscription → Subscription) → KeepsSubscription f → IsSound w → IsSound (record w { subscriptions = unended (map f w.subscriptions) })
sound-limits w f keeps sound = record {
  policy = sound.policy;
  names = sound.names;
  limit = sound.limit;
  connections = sound.connections;
  users = sound.users;
  outboxes = sound.outboxes;
  grants = sound.grants;
  subscriptions = All-filter IsOpen (IsAllowed w.policy w.sessions) subs (All-map (IsAllowed w.policy w.sessions) f w.subscriptions (λ k d h. allowed-again w.policy w.sessions f keeps (get_or w.subscriptions k d) (sound.subscriptions k d h)));
  reasons = All-filter IsOpen (HasReasonHere w.policy w.sessions) subs (All-map (HasReasonHere w.policy w.sessions) f w.subscriptions (λ k d h. reason-again w.policy w.sessions f keeps (get_or w.subscriptions k d) (sound.reasons k d h)));
  accounts = All-filter IsOpen (IsOwned w.policy w.sessions) subs (All-map (IsOwned w.policy w.sessions) f w.subscriptions (λ k d h. owned-again w.policy w.sessions f keeps (get_or w.subscriptions k d) (sound.accounts k d h)));
  limits = λ k d h. let s = get_or (unended subs) k d in sym (below-limit s.most s.received) ∙ filter_passes IsOpen subs k d h;
  counts = All-filter IsOpen HasCount subs (All-map HasCount f w.subscriptions (λ k d h. keeps.received (get_or w.subscriptions k d) (sound.counts k d h)));
  sids = AllPairs-filter (λ (s t : Subscription). has_same_sid s t ≡ false) IsOpen subs (AllPairs-map (λ (s t : Subscription). has_same_sid s t ≡ false) f w.subscriptions (apart-again f keeps) sound.sids);
  quotas = quotas-filter IsOpen subs (quotas-again f keeps w.subscriptions sound.quotas);
  ids = AllPairs-filter (λ (s t : Subscription). s.id < t.id) IsOpen subs (AllPairs-map (λ (s t : Subscription). s.id < t.id) f w.subscriptions (rising-again f keeps) sound.ids);
  numbers = All-filter IsOpen (λ (s : Subscription). s.id ≤ w.number) subs (All-map (λ (s : Subscription). s.id ≤ w.number) f w.subscriptions (λ k d h. below-again w.number f keeps (get_or w.subscriptions k d) (sound.numbers k d h)));
  routes = sound.routes;
  rows = sound.rows;
  epoch = sound.epoch;
}
  where
    IsOpen : Subscription → Bool
    IsOpen s = not (has_ended s)

    subs : List Subscription
    subs = map f w.subscriptions
