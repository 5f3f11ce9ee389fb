-- A world at its moment, without the grants that are dead: the policy in force has nothing more to change there, and tenants are apart.
use Rattle.std.proofs.Common.{◌≡◌, ◌∙◌, ◌==◌, ◌&&◌, ℕ, Bool, true, false, cond, List, [], ◌∷◌, filter, map, get_or, Option, Some, None, ap, sym, refl, arith, max}
use Rattle.std.specs.Prelude.{All, IfSome, IsSomeAnd, find, is_some, nat_eq}
use Rattle.std.specs.List.{cons_option, filter_map}
use Rattle.std.specs.Option.{option_map}
use Rattle.std.specs.Cmp.Lexicographic.{bytes_decides, pointwise}
use Rattle.std.proofs.lemmas.Bool.{and_parts, and_from, eqb-true, ltb-true, lt-leb}
use Rattle.std.proofs.lemmas.List.Elements.{All-head, All-tail, All-filter, All-map, All-weaker}
use Rattle.policy_doc.specs.declared.exports.document.Kind.TheVariants.{Service}
use Rattle.policy_doc.specs.declared.permission_doc.document.Terms.{Terms}
use Rattle.policy_doc.specs.declared.document.ImportDoc.{ImportDoc}
use Rattle.policy_doc.specs.declared.document.PolicyDoc.{PolicyDoc}
use Rattle.policy_sets.specs.Sets.{IsClosed}
use Rattle.policy_ready.specs.Users.{is_same_user, user_again, user_named, users_of}
use Rattle.policy_ready.specs.declared.ready.User.{User}
use Rattle.world_sessions.specs.Grants.{is_live}
use Rattle.world_sessions.specs.Replies.{Table, judged}
use Rattle.service_exporter.specs.Routes.{Exporter, Numbered, kept_route, lives, on_row, pruned_of}
use Rattle.service_exporter.specs.declared.route.NewRow.{NewRow}
use Rattle.service_routes.specs.Routes.{Name, kept, pruned}
use Rattle.service_routes.proofs.Seen.{dead}
use Rattle.service_routes.specs.service_rows.Rows.{renewed as renewed_row, import_at}
use Rattle.world_sessions.specs.deliveries.Sessions.{session_of}
use Rattle.world_sessions.specs.declared.deliveries.session.Session.{Session}
use Rattle.world_sessions.specs.Renewal.{remaining, renewed, stays, with_user}
use Rattle.world_subscriptions.specs.Limit.{has_ended, is_reached}
use Rattle.world_subscriptions.specs.Subscription.{Subscription}
use Rattle.world.specs.World.{World, advanced}
use Rattle.world.specs.Reload.{may_stand, stands_on, user_after, verdict_for}
use Rattle.hub.specs.Kept.{IsKeptTable}
use Rattle.hub.specs.Routes.{EachRoute, IsOfRow}
use Rattle.hub.specs.Sound.{IsSound, account_of, is_below, is_to_receive, may_subscribe, user_at, user_behind}
use Rattle.hub_laws.specs.grants.Dropping.{settled, with_live}
use Rattle.hub_laws.proofs.grants.Tables.{live_in, live_later}
use Rattle.tenant_laws.specs.parts.Least.{all_on_least, exporter_on_least, exporters_on_least, least_row, on_least}
use Rattle.tenant_laws.proofs.parts.Least.{has_itself}
use Rattle.tenant_laws.proofs.parts.OnLeast.{least_pruned}
use Rattle.tenant_laws.proofs.parts.Policy.{import_ends}
use Rattle.tenant_laws.specs.worlds.Tenants.{Tenants}
use Rattle.tenant_laws.specs.worlds.Alike.{AreApart, IsOwnExporter, IsOwnSession, IsOwnSubscription, IsUpheld}
use Rattle.tenant_laws.proofs.worlds.Commands.{found_all}

-- ---- lists

pub all_kept : {X : Type 0} (p : X → Bool) (xs : List X) → All (λ x. p x ≡ true) xs → filter p xs ≡ xs
all_kept p [] all = refl
all_kept p (x ∷ xs) all = ap (λ b. cond b (x ∷ filter p xs) (filter p xs)) (All-head (λ y. p y ≡ true) x xs all) ∙ ap (λ l. x ∷ l) (all_kept p xs (All-tail (λ y. p y ≡ true) x xs all))

all_same : {X : Type 0} (f : X → X) (xs : List X) → All (λ x. f x ≡ x) xs → map f xs ≡ xs
all_same f [] all = refl
all_same f (x ∷ xs) all = ap (λ y. y ∷ map f xs) (All-head (λ y. f y ≡ y) x xs all) ∙ ap (λ l. x ∷ l) (all_same f xs (All-tail (λ y. f y ≡ y) x xs all))

-- ---- routes of a policy's own rows

kept_on_row : (doc : PolicyDoc) (exporter : Name) (r : Numbered) → IsOfRow doc exporter r → kept_route (renewed_row doc doc) r ≡ Some (r.0, on_least doc r.1)
kept_on_row doc exporter r is =
    ap (option_map (λ (new : NewRow). (r.0, on_row r.1 new))) (has_itself doc r.1.row (service (import_at doc r.1.row.importer r.1.row.index) is.row))
    ∙ ap (λ terms. Some (r.0, record r.1 { row = least_row doc r.1.row; terms = terms })) (sym is.terms)
  where
    service : (o : Option ImportDoc) → IsSomeAnd o (λ (i : ImportDoc). (i.kind ≡ Service) × (i.account ≡ exporter)) → IsSomeAnd o (λ (i : ImportDoc). i.kind ≡ Service)
    service None never = never
    service (Some i) both = both.0

kept_routes : (doc : PolicyDoc) (exporter : Name) (rs : List Numbered) → All (IsOfRow doc exporter) rs → filter_map (kept_route (renewed_row doc doc)) rs ≡ all_on_least doc rs
kept_routes doc exporter [] is = refl
kept_routes doc exporter (r ∷ rs) is =
    ap (λ o. cons_option o (filter_map (kept_route (renewed_row doc doc)) rs)) (kept_on_row doc exporter r (All-head (IsOfRow doc exporter) r rs is))
    ∙ ap (λ l. (r.0, on_least doc r.1) ∷ l) (kept_routes doc exporter rs (All-tail (IsOfRow doc exporter) r rs is))

-- a policy that comes into force again moves each to the least row of its service
kept_on_least : (doc : PolicyDoc) (all : List (Name × Exporter)) → EachRoute (IsOfRow doc) all → kept (renewed_row doc doc) all ≡ exporters_on_least doc all
kept_on_least doc [] is = refl
kept_on_least doc (e ∷ all) is =
    ap (λ (rs : List Numbered). (e.0, record { last = e.1.last; routes = rs }) ∷ kept (renewed_row doc doc) all) (kept_routes doc e.0 e.1.routes (All-head (λ (x : Name × Exporter). All (IsOfRow doc x.0) x.1.routes) e all is))
    ∙ ap (λ l. (e.0, exporter_on_least doc e.1) ∷ l) (kept_on_least doc all (All-tail (λ (x : Name × Exporter). All (IsOfRow doc x.0) x.1.routes) e all is))

-- ---- users

-- what a test finds, a narrower one finds that it passes
found_again : {X : Type 0} (p q : X → Bool) (u : X) (xs : List X) → ((x : X) → q x ≡ true → p x ≡ true) → q u ≡ true → find p xs ≡ Some u → find q xs ≡ Some u
found_again p q u [] leads is e = e
found_again {X} p q u (x ∷ xs) leads is e = by (p x) refl (q x) refl e (found_again p q u xs leads is)
  where
    by : (a : Bool) → p x ≡ a → (b : Bool) → q x ≡ b → cond a (Some x) (find p xs) ≡ Some u → (find p xs ≡ Some u → find q xs ≡ Some u) → cond b (Some x) (find q xs) ≡ Some u
    by true f true g e' later = e'
    by true f false g e' later = let same : x ≡ u = cc in let no : false ≡ true = sym g ∙ ap q same ∙ is in absurd (cc)
    by false f true g e' later = let no : false ≡ true = sym f ∙ leads x g in absurd (cc)
    by false f false g e' later = later e'

same_itself : (u : User) → is_same_user u u ≡ true
same_itself u =
    and_from (pointwise nat_eq u.user u.user && pointwise nat_eq u.password u.password) (pointwise nat_eq u.account u.account)
    (and_from (pointwise nat_eq u.user u.user) (pointwise nat_eq u.password u.password) ((bytes_decides u.user u.user).1 refl) ((bytes_decides u.password u.password).1 refl)) ((bytes_decides u.account u.account).1 refl)

-- the user that a policy has under its name, it has again
pub again_itself : (doc : PolicyDoc) (u : User) → user_named doc u.user ≡ Some u → user_again doc u ≡ Some u
again_itself doc u e =
    found_again (λ (v : User). pointwise nat_eq v.user u.user) (λ v. is_same_user v u) u (users_of doc)
    (λ v same. (and_parts (pointwise nat_eq v.user u.user) (pointwise nat_eq v.password u.password)
    (and_parts (pointwise nat_eq v.user u.user && pointwise nat_eq v.password u.password) (pointwise nat_eq v.account u.account) same).0).0) (same_itself u) e

module _ (w : World) (now : ℕ) (sound : IsSound w) where
  abbrev m : ℕ
  m = max w.moment now

  abbrev rest : World
  rest = settled (advanced w now)

  abbrev OfRows : Name × Exporter → Type 0
  OfRows e = All (IsOfRow w.policy e.0) e.1.routes

  abbrev HasUser : Session → Type 0
  HasUser z = user_again w.policy z.user ≡ Some z.user

  have_users : All HasUser w.sessions
  have_users k d h = let z : Session = get_or w.sessions k d in again_itself w.policy z.user (sound.users k d h)

  -- ---- grants

  live_judged : (terms : Option Terms) (table : Table) → IsKeptTable w.moment terms table → judged m terms terms (live_in m terms table) ≡ live_in m terms table
  live_judged None table is = ap (live_in m None) (sym is)
  live_judged (Some terms) None is = refl
  live_judged (Some terms) (Some gs) is =
      ap (λ xs. Some (filter (is_live m (Some terms)) xs)) (live_later m m (Some terms) gs (omega arith))
      ∙ ap (λ xs. Some xs) (live_later m m (Some terms) gs (omega arith))

  -- a session is renewed to what it is
  renewed_same : (z : Session) → HasUser z → IsKeptTable w.moment z.user.rules.allow_responses z.replies → renewed m w.policy (with_live m z) ≡ with_live m z
  renewed_same z has table =
      ap (with_user m (with_live m z)) has
      ∙ ap (λ (t : Table). record (with_live m z) { replies = t }) (live_judged z.user.rules.allow_responses z.replies table)

  rest_sessions : remaining m w.policy rest.sessions ≡ rest.sessions
  rest_sessions =
      ap (map (renewed m w.policy))
      (all_kept (stays w.policy) (map (with_live m) w.sessions)
      (All-map (λ z. stays w.policy z ≡ true) (with_live m) w.sessions (λ k d h. ap is_some (have_users k d h))))
      ∙ all_same (renewed m w.policy) (map (with_live m) w.sessions)
      (All-map (λ z. renewed m w.policy z ≡ z) (with_live m) w.sessions (λ k d h. renewed_same (get_or w.sessions k d) (have_users k d h) (sound.grants k d h)))

  -- ---- subscriptions

  session_at : (conn : ℕ) (zs : List Session) → session_of (map (with_live m) zs) conn ≡ option_map (with_live m) (session_of zs conn)
  session_at conn [] = refl
  session_at conn (z ∷ zs) = by (z.conn == conn) (session_at conn zs)
    where
      by : (b : Bool) → session_of (map (with_live m) zs) conn ≡ option_map (with_live m) (session_of zs conn) →
          cond b (Some (with_live m z)) (session_of (map (with_live m) zs) conn) ≡ option_map (with_live m) (cond b (Some z) (session_of zs conn))
      by true later = refl
      by false later = later

  abbrev IsOfUser : Session → Type 0
  IsOfUser z = user_named w.policy z.user.user ≡ Some z.user

  stands : (s : Subscription) → may_subscribe (user_at w s.conn) s.subject s.queue ≡ true → stands_on w.policy rest.sessions s ≡ true
  stands s may =
      ap (λ o. may_stand (verdict_for (user_after w.policy o) s)) (session_at s.conn w.sessions)
      ∙ by (session_of w.sessions s.conn) (found_all IsOfUser (λ (z : Session). z.conn == s.conn) w.sessions sound.users) may
    where
      by : (o : Option Session) → IfSome o (λ z. IsOfUser z × ((z.conn == s.conn) ≡ true)) → may_subscribe (user_behind w.policy o) s.subject s.queue ≡ true →
          may_stand (verdict_for (user_after w.policy (option_map (with_live m) o)) s) ≡ true
      by None of is = absurd (cc)
      by (Some z) of is =
          ap (λ u. may_stand (verdict_for u s)) (again_itself w.policy z.user of.0)
          ∙ sym (ap (λ u. may_subscribe u s.subject s.queue) of.0) ∙ is

  rest_subscriptions : filter (stands_on w.policy rest.sessions) w.subscriptions ≡ w.subscriptions
  rest_subscriptions = all_kept (stands_on w.policy rest.sessions) w.subscriptions (λ k d h. stands (get_or w.subscriptions k d) (sound.subscriptions k d h))

  -- ---- routes

  rest_routes : pruned m (kept (renewed_row w.policy w.policy) (pruned m w.routes)) ≡ exporters_on_least w.policy (pruned m w.routes)
  rest_routes =
      ap (pruned m)
      (kept_on_least w.policy (pruned m w.routes)
      (All-map OfRows (λ (e : Name × Exporter). (e.0, pruned_of m e.1)) w.routes
      (All-weaker OfRows (λ (e : Name × Exporter). OfRows (e.0, pruned_of m e.1)) (λ e of. All-filter (λ (r : Numbered). lives m r.1) (IsOfRow w.policy e.0) e.1.routes of) w.routes sound.rows)))
      ∙ sym (least_pruned w.policy m (pruned m w.routes))
      ∙ ap (exporters_on_least w.policy) (dead m m w.routes (omega arith))

  pub upheld : IsUpheld rest
  upheld = record { sessions = rest_sessions; subscriptions = rest_subscriptions; routes = rest_routes }

  -- ---- tenants

  module _ (t : Tenants) (closed : IsClosed w.policy t.accounts) (own : All (IsOwnSession t) w.sessions) where
    own_subscription : (s : Subscription) → account_of (user_at w s.conn) ≡ Some s.account → IsOwnSubscription t s
    own_subscription s of = by (session_of w.sessions s.conn) (found_all (λ z. IsOfUser z × IsOwnSession t z) (λ (z : Session). z.conn == s.conn) w.sessions (λ k d h. (sound.users k d h, own k d h))) of
      where
        by : (o : Option Session) → IfSome o (λ z. (IsOfUser z × IsOwnSession t z) × ((z.conn == s.conn) ≡ true)) → account_of (user_behind w.policy o) ≡ Some s.account → t.connections s.conn ≡ t.accounts s.account
        by None at is = absurd (cc)
        by (Some z) at is =
            let account : Some z.user.account ≡ Some s.account = sym (ap account_of at.0.0) ∙ is in
            let same : z.user.account ≡ s.account = cc in
            ap t.connections (sym (eqb-true z.conn s.conn at.1)) ∙ at.0.1 ∙ ap t.accounts same

    own_route : (name : Name) (r : Numbered) → IsOfRow w.policy name r → t.accounts r.1.row.importer ≡ t.accounts name
    own_route name r is = by (import_at w.policy r.1.row.importer r.1.row.index) (import_ends t.accounts w.policy closed r.1.row.importer r.1.row.index) is.row
      where
        by : (o : Option ImportDoc) → IfSome o (λ (i : ImportDoc). t.accounts r.1.row.importer ≡ t.accounts i.account) → IsSomeAnd o (λ (i : ImportDoc). (i.kind ≡ Service) × (i.account ≡ name)) → t.accounts r.1.row.importer ≡ t.accounts name
        by None ends from = absurd from
        by (Some i) ends from = ends ∙ ap t.accounts from.1

    own_exporter : (e : Name × Exporter) → OfRows e → IsOwnExporter t (e.0, pruned_of m e.1)
    own_exporter e is =
        All-filter (λ (r : Numbered). lives m r.1) (λ (r : Numbered). t.accounts r.1.row.importer ≡ t.accounts e.0) e.1.routes
        (All-weaker (IsOfRow w.policy e.0) (λ (r : Numbered). t.accounts r.1.row.importer ≡ t.accounts e.0) (λ r on. own_route e.0 r on) e.1.routes is)

    not_ended : (s : Subscription) → is_to_receive s ≡ true → has_ended s ≡ false
    not_ended s is = by s.most is
      where
        by : (most : Option ℕ) → is_below most s.received ≡ true → is_reached most s.received ≡ false
        by None below = refl
        by (Some k) below = lt-leb k s.received (ltb-true s.received k below)

    pub apart : AreApart t rest
    apart = record {
      closed = closed;
      sessions = All-map (IsOwnSession t) (with_live m) w.sessions own;
      subscriptions = λ k d h. own_subscription (get_or w.subscriptions k d) (sound.accounts k d h);
      routes = All-map (IsOwnExporter t) (λ (e : Name × Exporter). (e.0, pruned_of m e.1)) w.routes
          (All-weaker OfRows (λ (e : Name × Exporter). IsOwnExporter t (e.0, pruned_of m e.1)) (λ e is. own_exporter e is) w.routes sound.rows);
      standing = λ k d h. not_ended (get_or w.subscriptions k d) (sound.limits k d h);
    }
