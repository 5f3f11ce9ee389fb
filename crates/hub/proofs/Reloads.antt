-- A reload keeps what every hub keeps, and puts its policy in force.
use Rattle.std.proofs.Common.{◌≡◌, ◌∙◌, ◌==◌, ◌&&◌, ◌||◌, ℕ, ◌+◌, ◌<◌, ◌≤◌, Bool, true, false, not, cond, List, [], ◌∷◌, map, filter, get_or, Option, Some, None, ap, sym, refl, subst, arith, max}
use Rattle.std.specs.Prelude.{All, AllPairs, IfSome, is_some, find, nat_eq}
use Rattle.std.specs.List.{filter_map, cons_option, list_any, AllByRecursion, IsDistinct}
use Rattle.std.specs.Str.{bytes_eq}
use Rattle.std.specs.Option.{option_map}
use Rattle.std.specs.Cmp.Lexicographic.{pointwise}
use Rattle.std.proofs.lemmas.List.{length-map}
use Rattle.std.proofs.lemmas.List.Filters.{length-filter_both}
use Rattle.std.proofs.lemmas.List.Elements.{All-map, All-filter, All-weaker, All-head, All-tail, filter_agree, filter_passes}
use Rattle.std.proofs.lemmas.List.Kept.{AllPairs-filter}
use Rattle.std.proofs.lemmas.Map.Keys.{IsDistinct-head, IsDistinct-tail}
use Rattle.std.proofs.lemmas.Slice.Eq.{bytes_eq-Decides}
use Rattle.policy_doc.specs.Document.{IsValidPolicy}
use Rattle.policy_doc.specs.declared.document.PolicyDoc.{PolicyDoc}
use Rattle.permissions.specs.Verdicts.{subscribe_verdict, is_allowed, IsJustifiedSubscribe}
use Rattle.permissions.specs.declared.verdict.Verdict.{Verdict}
use Rattle.permissions.specs.declared.verdict.Verdict.TheVariants.{Allowed, DeniedBy, NoAllow, NoQueueAllow}
use Rattle.policy_ready.specs.Users.{users_of, user_named, is_same_user, user_again}
use Rattle.policy_ready.specs.declared.ready.User.{User}
use Rattle.service_routes.specs.Routes.{kept, pruned}
use Rattle.service_routes.specs.service_rows.Rows.{renewed as renewed_row}
use Rattle.world_sessions.specs.deliveries.Sessions.{session_of}
use Rattle.world_sessions.specs.Renewal.{user_again_of, stays, goes, with_user, renewed, remaining, connection_of, closed_conns}
use Rattle.world_sessions.specs.declared.deliveries.session.Session.{Session}
use Rattle.world_rows.specs.declared.subscription.Subscription.{Subscription}
use Rattle.world.specs.World.{World}
use Rattle.world.specs.Reload.{user_after, verdict_for, may_stand, stands_on, removal, removal_after, IsReasonedVerdict, IsReasonedReload}
use Rattle.hub.specs.Sound.{IsSound, has_same_sid, user_behind, account_of, may_subscribe, HasAllowance}
use Rattle.hub.specs.Routes.{IsOfRow}
use Rattle.hub.specs.InForce.{goes_on_for, goes_on, under, removal_for, IsInForce}
use Rattle.hub.proofs.Finds.{find-passes, find-All, find-nothing, AllPairs-head, AllPairs-tail, AllPairs-map}
use Rattle.policy_ready.proofs.Names.{name_of, are_named_once, unlike}
use Rattle.hub.proofs.Naming.{named_again}
use Rattle.world_sessions.proofs.Remaining.{with_user-conn}
use Rattle.world.proofs.Handed.{passing, session_of-filter, session_of-remaining}
use Rattle.world_sessions.proofs.Ascending.{AreApart, among-ascending, ascending-rises}
use Rattle.hub.proofs.Grants.{kept_judged}
use Rattle.hub.proofs.Routes.{routed-kept, routed-pruned}
use Rattle.hub.proofs.Rows.{each-pruned, rows-kept}
use Rattle.hub.proofs.Soundness.{IsOfPolicy, HasBound, HasTable, IsApart, IsOwned, IsStillToReceive, HasCount, quotas-filter, tables-next}

-- ---- the same user, found by its name

-- the user of a name, if password and account are the other's too
abbrev same_login : User → Option User → Option User
same_login v None = None
same_login v (Some u) = cond (pointwise nat_eq u.password v.password && pointwise nat_eq u.account v.account) (Some u) None

-- who is named otherwise is another
another : (u v x : User) → pointwise nat_eq u.user v.user ≡ true → bytes_eq u.user x.user ≡ false → is_same_user x v ≡ false
another u v x same other = here (pointwise nat_eq x.user v.user) refl
  where
    here : (b : Bool) → pointwise nat_eq x.user v.user ≡ b → ((b && pointwise nat_eq x.password v.password) && pointwise nat_eq x.account v.account) ≡ false
    here false is = refl
    here true is =
        let e : u.user ≡ x.user = (bytes_eq-Decides u.user v.user).0 same ∙ sym ((bytes_eq-Decides x.user v.user).0 is) in
        let yes : bytes_eq u.user x.user ≡ true = (bytes_eq-Decides u.user x.user).1 e in
        absurd (cc)

again-by_name : (v : User) (us : List User) → IsDistinct bytes_eq (map name_of us) →
    find (λ u. is_same_user u v) us ≡ same_login v (find (λ (u : User). pointwise nat_eq u.user v.user) us)
again-by_name v [] apart = refl
again-by_name v (u ∷ us) apart = here (pointwise nat_eq u.user v.user) refl (again-by_name v us (IsDistinct-tail bytes_eq u.user (map name_of us) apart))
  where
    others : pointwise nat_eq u.user v.user ≡ true → All (λ x. is_same_user x v ≡ false) us
    others same k d h = another u v (get_or us k d) same (unlike u.user us (IsDistinct-head bytes_eq u.user (map name_of us) apart) k d h)

    here : (b : Bool) → pointwise nat_eq u.user v.user ≡ b →
        find (λ x. is_same_user x v) us ≡ same_login v (find (λ (x : User). pointwise nat_eq x.user v.user) us) →
        cond ((b && pointwise nat_eq u.password v.password) && pointwise nat_eq u.account v.account) (Some u) (find (λ x. is_same_user x v) us)
        ≡ same_login v (cond b (Some u) (find (λ (x : User). pointwise nat_eq x.user v.user) us))
    here true is later =
        ap (cond (pointwise nat_eq u.password v.password && pointwise nat_eq u.account v.account) (Some u)) (find-nothing (λ x. is_same_user x v) us (others is))
    here false is later = later

user_again-by_name : (doc : PolicyDoc) (v : User) → IsValidPolicy doc → user_again doc v ≡ same_login v (user_named doc v.user)
user_again-by_name doc v valid = again-by_name v (users_of doc) (are_named_once doc valid)

-- ---- the sessions that stay

-- they are those that go on, each for the user that the policy has under its name
stay-same : (now : ℕ) (doc : PolicyDoc) (zs : List Session) → IsValidPolicy doc → remaining now doc zs ≡ map (under now doc) (filter (goes_on doc) zs)
stay-same now doc [] valid = refl
stay-same now doc (z ∷ zs) valid =
    ap (λ a. map (renewed now doc) (cond (is_some a) (z ∷ filter (stays doc) zs) (filter (stays doc) zs))) (user_again-by_name doc z.user valid)
    ∙ by_name (user_named doc z.user.user) refl (stay-same now doc zs valid)
  where
    is_same_login : User → Bool
    is_same_login u = pointwise nat_eq u.password z.user.password && pointwise nat_eq u.account z.user.account

    by_login : (u : User) → user_named doc z.user.user ≡ Some u → (b : Bool) → (pointwise nat_eq u.password z.user.password && pointwise nat_eq u.account z.user.account) ≡ b →
        map (renewed now doc) (filter (stays doc) zs) ≡ map (under now doc) (filter (goes_on doc) zs) →
        map (renewed now doc) (cond (is_some (let a : Option User = cond b (Some u) None in a)) (z ∷ filter (stays doc) zs) (filter (stays doc) zs)) ≡ map (under now doc) (cond b (z ∷ filter (goes_on doc) zs) (filter (goes_on doc) zs))
    by_login u e false is later = later
    by_login u e true is later =
        ap (λ y. y ∷ map (renewed now doc) (filter (stays doc) zs)) (
        ap (with_user now z) (user_again-by_name doc z.user valid ∙ ap (same_login z.user) e ∙ ap (λ b. cond b (Some u) None) is)
        ∙ sym (ap (with_user now z) e))
        ∙ ap (λ ys. under now doc z ∷ ys) later

    by_name : (o : Option User) → user_named doc z.user.user ≡ o → map (renewed now doc) (filter (stays doc) zs) ≡ map (under now doc) (filter (goes_on doc) zs) →
        map (renewed now doc) (cond (is_some (same_login z.user o)) (z ∷ filter (stays doc) zs) (filter (stays doc) zs)) ≡ map (under now doc) (cond (goes_on_for z o) (z ∷ filter (goes_on doc) zs) (filter (goes_on doc) zs))
    by_name None e later = later
    by_name (Some u) e later = by_login u e (pointwise nat_eq u.password z.user.password && pointwise nat_eq u.account z.user.account) refl later

with_user-bound : (now : ℕ) (capacity : ℕ) (z : Session) (o : Option User) → HasBound capacity z → HasBound capacity (with_user now z o)
with_user-bound now capacity z None is = is
with_user-bound now capacity z (Some u) is = is

with_user-table : (now : ℕ) (z : Session) (o : Option User) → HasTable now z → HasTable now (with_user now z o)
with_user-table now z None is = is
with_user-table now z (Some u) is = kept_judged now z.user.rules.allow_responses u.rules.allow_responses z.replies is

-- the policy has the user of a session that stays
renewed-of_policy : (now : ℕ) (doc : PolicyDoc) (z : Session) → IsValidPolicy doc → stays doc z ≡ true → IsOfPolicy doc (renewed now doc z)
renewed-of_policy now doc z valid = here (user_again_of doc z) refl
  where
    here : (o : Option User) → user_again_of doc z ≡ o → is_some o ≡ true → user_named doc (with_user now z o).user.user ≡ Some (with_user now z o).user
    here None is stay = absurd (cc)
    here (Some u) is stay = named_again (λ x. is_same_user x z.user) doc u valid is

-- whom a connection acts for afterwards
user_behind-remaining : (now : ℕ) (doc : PolicyDoc) (conn : ℕ) (zs : List Session) → IsValidPolicy doc → AllPairs IsApart zs →
    user_behind doc (session_of (remaining now doc zs) conn) ≡ user_after doc (session_of zs conn)
user_behind-remaining now doc conn zs valid apart = ap (user_behind doc) (session_of-remaining now doc conn zs apart) ∙ by_session (session_of zs conn)
  where
    by_user : (z : Session) (o : Option User) → user_again_of doc z ≡ o → user_behind doc (option_map (renewed now doc) (cond (is_some o) (Some z) None)) ≡ o
    by_user z None is = refl
    by_user z (Some u) is = ap (λ a. user_named doc (with_user now z a).user.user) is ∙ named_again (λ x. is_same_user x z.user) doc u valid is

    by_session : (o : Option Session) → user_behind doc (option_map (renewed now doc) (passing (stays doc) o)) ≡ user_after doc o
    by_session None = refl
    by_session (Some z) = by_user z (user_again_of doc z) refl

-- ---- the connections that are gone

any-session : (conn : ℕ) (zs : List Session) → list_any (λ (n : ℕ). n == conn) (map connection_of zs) ≡ is_some (session_of zs conn)
any-session conn [] = refl
any-session conn (z ∷ zs) = here (z.conn == conn) (any-session conn zs)
  where
    here : (b : Bool) → list_any (λ (n : ℕ). n == conn) (map connection_of zs) ≡ is_some (session_of zs conn) →
        (b || list_any (λ (n : ℕ). n == conn) (map connection_of zs)) ≡ is_some (cond b (Some z) (session_of zs conn))
    here true later = refl
    here false later = later

gone-same : (now : ℕ) (doc : PolicyDoc) (conn : ℕ) (zs : List Session) → AllPairs IsApart zs →
    list_any (λ (n : ℕ). n == conn) (closed_conns doc zs) ≡ (is_some (session_of zs conn) && not (is_some (session_of (remaining now doc zs) conn)))
gone-same now doc conn zs apart =
    among-ascending conn (map connection_of (filter (goes doc) zs))
    ∙ any-session conn (filter (goes doc) zs)
    ∙ ap (λ o. is_some o) (session_of-filter (goes doc) conn zs apart)
    ∙ by_session (session_of zs conn)
    ∙ ap (λ o. is_some (session_of zs conn) && not (is_some o)) (sym (session_of-remaining now doc conn zs apart))
  where
    by_stay : (z : Session) (b : Bool) → is_some (let o : Option Session = cond (not b) (Some z) None in o) ≡ not (is_some (option_map (renewed now doc) (cond b (Some z) None)))
    by_stay z true = refl
    by_stay z false = refl

    by_session : (o : Option Session) → is_some (passing (goes doc) o) ≡ (is_some o && not (is_some (option_map (renewed now doc) (passing (stays doc) o))))
    by_session None = refl
    by_session (Some z) = by_stay z (stays doc z)

conns-apart : (zs : List Session) → AllPairs IsApart zs → AreApart (map connection_of zs)
conns-apart [] apart = tt
conns-apart (z ∷ zs) apart = (others zs (AllPairs-head IsApart z zs apart), conns-apart zs (AllPairs-tail IsApart z zs apart))
  where
    others : (ys : List Session) → All (IsApart z) ys → AllByRecursion (λ m. z.conn ≡ m → ⊥) (map connection_of ys)
    others [] all = tt
    others (y ∷ ys) all = (All-head (IsApart z) y ys all, others ys (All-tail (IsApart z) y ys all))

-- ---- subscriptions

stand-same : (u : Option User) (sub : Subscription) → may_stand (verdict_for u sub) ≡ may_subscribe u sub.subject sub.queue
stand-same None sub = refl
stand-same (Some u) sub = refl

removal-same : (u : Option User) (sub : Subscription) → removal sub (verdict_for u sub) ≡ removal_for sub u
removal-same None sub = refl
removal-same (Some u) sub = refl

filter_map_agree : {X Y : Type 0} (g h : X → Option Y) → ((x : X) → g x ≡ h x) → (xs : List X) → filter_map g xs ≡ filter_map h xs
filter_map_agree g h same [] = refl
filter_map_agree g h same (x ∷ xs) = ap (λ o. cons_option o (filter_map g xs)) (same x) ∙ ap (cons_option (h x)) (filter_map_agree g h same xs)

-- ---- the world afterwards

abbrev pub after_reload : World → ℕ → PolicyDoc → World
after_reload w now doc = record w {
  policy = doc;
  epoch = w.epoch + 1;
  moment = max w.moment now;
  number = w.number + 1;
  sessions = remaining (max w.moment now) doc w.sessions;
  subscriptions = filter (stands_on doc w.sessions) w.subscriptions;
  routes = pruned (max w.moment now) (kept (renewed_row w.policy doc) (pruned (max w.moment now) w.routes));
}

-- whom the new policy has behind a connection
abbrev user_now : ℕ → PolicyDoc → List Session → Subscription → Option User
user_now now doc zs sub = user_behind doc (session_of (remaining now doc zs) sub.conn)

stands-same : (now : ℕ) (doc : PolicyDoc) (zs : List Session) (sub : Subscription) → IsValidPolicy doc → AllPairs IsApart zs → stands_on doc zs sub ≡ may_subscribe (user_now now doc zs sub) sub.subject sub.queue
stands-same now doc zs sub valid apart =
    stand-same (user_after doc (session_of zs sub.conn)) sub ∙ ap (λ u. may_subscribe u sub.subject sub.queue) (sym (user_behind-remaining now doc sub.conn zs valid apart))

-- ---- accounts

and-last : (a b : Bool) → (a && b) ≡ true → b ≡ true
and-last true b h = h
and-last false b h = absurd (cc)

same-account : (doc : PolicyDoc) (z : Session) (u : User) → user_again_of doc z ≡ Some u → u.account ≡ z.user.account
same-account doc z u is = (bytes_eq-Decides u.account z.user.account).0
    (and-last _ (pointwise nat_eq u.account z.user.account) (find-passes (λ x. is_same_user x z.user) (users_of doc) u is))

-- what stands on is of the account that its user has in the new policy too
owned-after : (now : ℕ) (old doc : PolicyDoc) (zs : List Session) (sub : Subscription) → IsValidPolicy doc → AllPairs IsApart zs → All (IsOfPolicy old) zs → IsOwned old zs sub → stands_on doc zs sub ≡ true → IsOwned doc (remaining now doc zs) sub
owned-after now old doc zs sub valid apart users owned stand =
    ap account_of (user_behind-remaining now doc sub.conn zs valid apart) ∙ by_session (session_of zs sub.conn) refl owned stand
  where
    by_user : (z : Session) (o : Option User) → user_again_of doc z ≡ o → z.user.account ≡ sub.account → may_stand (verdict_for o sub) ≡ true → account_of o ≡ Some sub.account
    by_user z None is same may = absurd (cc)
    by_user z (Some u) is same may = ap (λ (a : List ℕ). Some a) (same-account doc z u is ∙ same)

    by_session : (o : Option Session) → session_of zs sub.conn ≡ o → account_of (user_behind old o) ≡ Some sub.account → may_stand (verdict_for (user_after doc o) sub) ≡ true → account_of (user_after doc o) ≡ Some sub.account
    by_session None e is may = absurd (cc)
    by_session (Some z) e is may =
        let known : Some z.user.account ≡ Some sub.account = sym (ap account_of (find-All (IsOfPolicy old) (λ (y : Session). y.conn == sub.conn) zs z users e)) ∙ is in
        by_user z (user_again_of doc z) refl (let same : z.user.account ≡ sub.account = cc in same) may

-- and it has its reason there
allowed-after : (now : ℕ) (doc : PolicyDoc) (zs : List Session) (sub : Subscription) → IsValidPolicy doc → AllPairs IsApart zs → IsReasonedVerdict doc zs sub → stands_on doc zs sub ≡ true → HasAllowance (user_now now doc zs sub) sub.subject sub.queue
allowed-after now doc zs sub valid apart reasoned stand =
    subst (λ u. HasAllowance u sub.subject sub.queue) (sym (user_behind-remaining now doc sub.conn zs valid apart)) (by_user (user_after doc (session_of zs sub.conn)) reasoned stand)
  where
    by_verdict : (u : User) (v : Verdict) → IsJustifiedSubscribe sub.subject sub.queue u.rules.subscribe v → is_allowed v ≡ true → HasAllowance (Some u) sub.subject sub.queue
    by_verdict u (Allowed by) has may = (by, has)
    by_verdict u (DeniedBy i) has may = absurd (cc)
    by_verdict u NoAllow has may = absurd (cc)
    by_verdict u (NoQueueAllow i) has may = absurd (cc)

    by_user : (o : Option User) → IfSome o (λ (u : User). IsJustifiedSubscribe sub.subject sub.queue u.rules.subscribe (subscribe_verdict u.rules sub.subject sub.queue)) → may_stand (verdict_for o sub) ≡ true → HasAllowance o sub.subject sub.queue
    by_user None has may = absurd (cc)
    by_user (Some u) has may = by_verdict u (subscribe_verdict u.rules sub.subject sub.queue) has may

pub sound-reload : (w : World) (now : ℕ) (doc : PolicyDoc) → IsSound w → IsReasonedReload doc w.sessions w.subscriptions → IsSound (after_reload w now doc)
sound-reload w now doc sound reasoned = let valid = reasoned.0 in record {
  policy = valid;
  names = reasoned.1;
  limit = omega (arith, length-map (filter (stays doc) w.sessions) (renewed (max w.moment now) doc), length-filter_both (stays doc) (goes doc) (λ z. refl) w.sessions, sound.limit);
  connections = AllPairs-map IsApart (renewed (max w.moment now) doc) (filter (stays doc) w.sessions)
      (λ y z apart same. apart (sym (with_user-conn (max w.moment now) y (user_again_of doc y)) ∙ same ∙ with_user-conn (max w.moment now) z (user_again_of doc z)))
      (AllPairs-filter IsApart (stays doc) w.sessions sound.connections);
  users = All-map (IsOfPolicy doc) (renewed (max w.moment now) doc) (filter (stays doc) w.sessions)
      (λ k d h. renewed-of_policy (max w.moment now) doc (get_or (filter (stays doc) w.sessions) k d) valid (filter_passes (stays doc) w.sessions k d h));
  outboxes = All-map (HasBound w.capacity) (renewed (max w.moment now) doc) (filter (stays doc) w.sessions)
      (λ k d h. with_user-bound (max w.moment now) w.capacity _ _ (All-filter (stays doc) (HasBound w.capacity) w.sessions sound.outboxes k d h));
  grants = All-map (HasTable (max w.moment now)) (renewed (max w.moment now) doc) (filter (stays doc) w.sessions)
      (λ k d h. with_user-table (max w.moment now) (get_or (filter (stays doc) w.sessions) k d) (user_again_of doc (get_or (filter (stays doc) w.sessions) k d)) (All-filter (stays doc) (HasTable (max w.moment now)) w.sessions (tables-next w now sound) k d h));
  subscriptions = λ k d h. sym (stands-same (max w.moment now) doc w.sessions (get_or (filter (stands_on doc w.sessions) w.subscriptions) k d) valid sound.connections)
      ∙ filter_passes (stands_on doc w.sessions) w.subscriptions k d h;
  reasons = λ k d h. allowed-after (max w.moment now) doc w.sessions (get_or (filter (stands_on doc w.sessions) w.subscriptions) k d) valid sound.connections
      (All-filter (stands_on doc w.sessions) (IsReasonedVerdict doc w.sessions) w.subscriptions reasoned.2 k d h) (filter_passes (stands_on doc w.sessions) w.subscriptions k d h);
  accounts = λ k d h. owned-after (max w.moment now) w.policy doc w.sessions (get_or (filter (stands_on doc w.sessions) w.subscriptions) k d) valid sound.connections sound.users
      (All-filter (stands_on doc w.sessions) (IsOwned w.policy w.sessions) w.subscriptions sound.accounts k d h) (filter_passes (stands_on doc w.sessions) w.subscriptions k d h);
  limits = All-filter (stands_on doc w.sessions) IsStillToReceive w.subscriptions sound.limits;
  counts = All-filter (stands_on doc w.sessions) HasCount w.subscriptions sound.counts;
  sids = AllPairs-filter (λ (s t : Subscription). has_same_sid s t ≡ false) (stands_on doc w.sessions) w.subscriptions sound.sids;
  quotas = quotas-filter (stands_on doc w.sessions) w.subscriptions sound.quotas;
  ids = AllPairs-filter (λ (s t : Subscription). s.id < t.id) (stands_on doc w.sessions) w.subscriptions sound.ids;
  numbers = All-filter (stands_on doc w.sessions) (λ (s : Subscription). s.id ≤ w.number + 1) w.subscriptions (λ k d h. let n = sound.numbers k d h in omega arith);
  routes = routed-kept (max w.moment now) (renewed_row w.policy doc) (pruned (max w.moment now) w.routes) (routed-pruned w.moment (max w.moment now) w.routes (omega arith) sound.routes);
  rows = each-pruned (IsOfRow doc) (max w.moment now) (kept (renewed_row w.policy doc) (pruned (max w.moment now) w.routes))
      (rows-kept w.policy doc (pruned (max w.moment now) w.routes) (each-pruned (IsOfRow w.policy) (max w.moment now) w.routes sound.rows));
  epoch = let h = sound.epoch in omega arith;
}

pub in_force : (w : World) (now : ℕ) (doc : PolicyDoc) → IsSound w → IsReasonedReload doc w.sessions w.subscriptions →
    IsInForce w (max w.moment now) doc (closed_conns doc w.sessions) (filter_map (removal_after doc w.sessions) w.subscriptions) (after_reload w now doc)
in_force w now doc sound reasoned =
    let valid = reasoned.0 in
    let whom = λ (sub : Subscription). user_behind-remaining (max w.moment now) doc sub.conn w.sessions valid sound.connections in
    record {
      stay = stay-same (max w.moment now) doc w.sessions valid;
      rising = ascending-rises (map connection_of (filter (goes doc) w.sessions)) (conns-apart (filter (goes doc) w.sessions) (AllPairs-filter IsApart (goes doc) w.sessions sound.connections));
      gone = λ conn. gone-same (max w.moment now) doc conn w.sessions sound.connections;
      standing = filter_agree (stands_on doc w.sessions) (λ (sub : Subscription). may_subscribe (user_now (max w.moment now) doc w.sessions sub) sub.subject sub.queue)
          (λ sub. stands-same (max w.moment now) doc w.sessions sub valid sound.connections) w.subscriptions;
      routes = refl;
      removed = filter_map_agree (removal_after doc w.sessions) (λ (sub : Subscription). removal_for sub (user_now (max w.moment now) doc w.sessions sub))
          (λ sub. removal-same (user_after doc (session_of w.sessions sub.conn)) sub ∙ ap (removal_for sub) (sym (whom sub))) w.subscriptions;
      reasons = All-weaker (IsReasonedVerdict doc w.sessions) (λ (sub : Subscription). IfSome (user_now (max w.moment now) doc w.sessions sub) (λ (u : User). IsJustifiedSubscribe sub.subject sub.queue u.rules.subscribe (subscribe_verdict u.rules sub.subject sub.queue)))
          (λ sub has. subst (λ o. IfSome o (λ (u : User). IsJustifiedSubscribe sub.subject sub.queue u.rules.subscribe (subscribe_verdict u.rules sub.subject sub.queue))) (sym (whom sub)) has) w.subscriptions reasoned.2;
    }
