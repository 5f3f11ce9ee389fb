-- What a message gives in a view, of tenants' own accounts and of others.
use Rattle.std.proofs.Common.{◌≡◌, ◌∙◌, ◌&&◌, ◌+◌, ℕ, Bool, true, false, not, cond, List, [], ◌∷◌, ◌++◌, filter, map, get_or, Option, Some, None, ap, sym, refl, subst, nat_lt}
use Rattle.std.specs.Prelude.{All, nat_eq}
use Rattle.std.specs.Cmp.Lexicographic.{bytes_decides, pointwise}
use Rattle.std.proofs.lemmas.List.Elements.{All-nil, All-cons, All-head, All-tail, All-filter, All-map, All-weaker, filter_passes}
use Rattle.subjects.specs.Subject.{Token, in_set}
use Rattle.policy_doc.specs.declared.exports.document.Row.{Row}
use Rattle.policy_doc.specs.declared.document.PolicyDoc.{PolicyDoc}
use Rattle.policy_sets.specs.Sets.{IsClosed}
use Rattle.policy_ready.specs.declared.imports.view.ViewItem.{ViewItem}
use Rattle.policy_ready.specs.declared.imports.view.ViewItem.TheVariants.{At, TooLong}
use Rattle.policy_ready.specs.declared.imports.view.Way.TheVariants.{Own, Stream, Service, Response}
use Rattle.service_exporter.specs.Limit.{is_full}
use Rattle.service_exporter.specs.Routes.{Exporter}
use Rattle.service_exporter.specs.declared.route.Route.{Route}
use Rattle.service_routes.specs.Routes.{Name, exporter_of, opened}
use Rattle.events.specs.Messages.{Message}
use Rattle.events.specs.declared.answer.Addressed.{Addressed}
use Rattle.events.specs.declared.answer.Item.{Item}
use Rattle.world_sessions.specs.deliveries.Delivered.{after_offer, delivered, item_of}
use Rattle.world_sessions.specs.deliveries.Replying.{note_for, noted_for}
use Rattle.world_sessions.specs.declared.deliveries.session.Session.{Session}
use Rattle.world_subscriptions.specs.Addressing.{addressed_to, delivery_to}
use Rattle.world_subscriptions.specs.Subscriptions.{has_subject}
use Rattle.world_subscriptions.specs.Limit.{counted, has_ended, has_entered, unended}
use Rattle.world_subscriptions.specs.Subscription.{Subscription}
use Rattle.world_subscriptions.specs.groups.Served.{is_served, served}
use Rattle.world.specs.Routing.{is_open_to, lets_through, may_hear}
use Rattle.world_routing.specs.World.{World}
use Rattle.world_routing.specs.Routing.{View, admitted, deliveries, in_view, in_views, is_admitted, is_nil, requested, requested_by, routed, view_of, view_with}
use Rattle.world.specs.Routing.{next_subject, route_for}
use Rattle.tenant_laws.specs.parts.Laws.{IsViewWithin}
use Rattle.tenant_laws.specs.parts.Least.{exporter_on_least, exporters_on_least, on_least}
use Rattle.tenant_laws.specs.parts.Part.{exporters_of}
use Rattle.tenant_laws.proofs.parts.Routes.{has, opens}
use Rattle.tenant_laws.proofs.parts.Policy.{terms_in_part}
use Rattle.tenant_laws.proofs.parts.Least.{least_in_row}
use Rattle.tenant_laws.proofs.parts.OnLeast.{least_full, least_looked, least_opened}
use Rattle.tenant_laws.specs.worlds.Tenants.{Tenants, has_subscription, sessions_of, subscriptions_of}
use Rattle.tenant_laws.specs.worlds.Alike.{ArePaired, IsOwnSubscription, IsPartOf, IsSame, Pair, first_of, second_of}
use Rattle.tenant_laws.proofs.worlds.Sessions.{IsElsewhere, IsTo, delivered_others, delivered_own, items_elsewhere, not_counted, session_kept}
use Rattle.tenant_laws.proofs.worlds.Pairs.{changed_subscriptions, counted_conn, kept_before, mapped_twice, pairs_counted, pairs_kept, pairs_mapped, unchanged_subscriptions}
use Rattle.tenant_laws.proofs.worlds.Groups.{pairs_served}

-- what each has that passes holds of all that are kept
pub passing_all : {X : Type 0} (p : X → Bool) (P Q : X → Type 0) → ((x : X) → P x → p x ≡ true → Q x) → (xs : List X) → All P xs → All Q (filter p xs)
passing_all p P Q leads [] all = All-nil Q
passing_all {X} p P Q leads (x ∷ xs) all = by (p x) refl (passing_all p P Q leads xs (All-tail P x xs all))
  where
    by : (b : Bool) → p x ≡ b → All Q (filter p xs) → All Q (cond b (x ∷ filter p xs) (filter p xs))
    by true e later = All-cons Q x (filter p xs) (leads x (All-head P x xs all) e) later
    by false e later = later

-- ---- deliveries without the numbers of their subscriptions

abbrev unmarked : Addressed → Addressed
unmarked a = record a { id = 0 }

delivered_unmarked : (now : ℕ) (all : List Addressed) (zs : List Session) → ◌≡◌ {A = List Session × List Item} (delivered now (map unmarked all) zs) (delivered now all zs)
delivered_unmarked now [] zs = refl
delivered_unmarked now (a ∷ rest) zs = ap (λ (after : List Session × List Item). (after.0, item_of a zs ∷ after.1)) (delivered_unmarked now rest (after_offer now a zs))

is_nil-map : {X Y : Type 0} (f : X → Y) (xs : List X) → is_nil (map f xs) ≡ is_nil xs
is_nil-map f [] = refl
is_nil-map f (x ∷ xs) = refl

pub nil_paired : (t : Tenants) (m n : ℕ) (xs ys : List Subscription) → ArePaired t m n xs ys → is_nil ys ≡ is_nil xs
nil_paired t m n xs ys P = ap is_nil (sym P.second) ∙ is_nil-map second_of P.pairs ∙ sym (is_nil-map first_of P.pairs) ∙ ap is_nil P.first

-- ---- what a view leaves

-- the same is told, and the second world is still the tenants' part of the first
pub record AreSeenAlike (t : Tenants) (r s : List Item × World) : Type 0 where
  pub items : s.0 ≡ r.0
  pub part : IsPartOf t r.1 s.1
  pub own : All (IsOwnSubscription t) r.1.subscriptions
  pub closed : IsClosed r.1.policy t.accounts

-- the tenants' part has stayed
pub record HasStayed (t : Tenants) (w p : World) : Type 0 where
  pub part : IsPartOf t w p
  pub own : All (IsOwnSubscription t) w.subscriptions
  pub standing : All (λ s. has_ended s ≡ false) w.subscriptions

module _ (t : Tenants) (zs : List Session) (publisher : Session) (word : ℕ) where
  abbrev own_sessions : List Session
  own_sessions = sessions_of t zs

  -- a subscription of another account isn't admitted
  not_admitted : (v : View) (s : Subscription) → t.accounts s.account ≡ false → t.accounts v.account ≡ true → is_admitted zs publisher v s ≡ false
  not_admitted v s out is = by (pointwise nat_eq s.account v.account) refl
    where
      by : (b : Bool) → pointwise nat_eq s.account v.account ≡ b → ((b && in_set s.subject v.message.subject) && is_open_to zs publisher v.message.subject s.conn s.queue) ≡ false
      by true e = let no : false ≡ true = sym out ∙ ap t.accounts ((bytes_decides s.account v.account).0 e) ∙ is in absurd (cc)
      by false e = refl

  -- and one that is admitted is of the view's account
  admitted_of : (v : View) (s : Subscription) → is_admitted zs publisher v s ≡ true → s.account ≡ v.account
  admitted_of v s e = by (pointwise nat_eq s.account v.account) refl e
    where
      by : (b : Bool) → pointwise nat_eq s.account v.account ≡ b → ((b && in_set s.subject v.message.subject) && is_open_to zs publisher v.message.subject s.conn s.queue) ≡ true → s.account ≡ v.account
      by true is e' = (bytes_decides s.account v.account).0 is
      by false is e' = absurd (cc)

  module _ (w p : World) (part : IsPartOf t w p) (own : All (IsOwnSubscription t) w.subscriptions) where
    abbrev m : ℕ
    m = w.number

    abbrev n : ℕ
    n = p.number

    admitted_alike : (v : View) (a : Pair) → t.connections a.0.conn ≡ true → IsSame a → is_admitted zs publisher v a.0 ≡ is_admitted own_sessions publisher v a.1
    admitted_alike v a is same =
        ap (λ (o : Option Session). has_subject v.account v.message.subject a.0 && (may_hear publisher a.0.conn && lets_through v.message.subject a.0.queue o)) (sym (session_kept t a.0.conn zs is))
        ∙ ap (λ (s : Subscription). is_admitted own_sessions publisher v s) same

    pub own_admitted : (v : View) → t.accounts v.account ≡ true → ArePaired t m n (admitted zs w publisher v) (admitted own_sessions p publisher v)
    own_admitted v is =
        let P : ArePaired t m n (subscriptions_of t w.subscriptions) p.subscriptions = part.subscriptions in
        let Q : ArePaired t m n (filter (is_admitted zs publisher v) (subscriptions_of t w.subscriptions)) (admitted own_sessions p publisher v) =
        pairs_kept t m n (is_admitted zs publisher v) (is_admitted own_sessions publisher v) (subscriptions_of t w.subscriptions) p.subscriptions P
        (λ k d h. admitted_alike v (get_or P.pairs k d) (P.within k d h) (P.same k d h)) in
        subst (λ xs. ArePaired t m n xs (admitted own_sessions p publisher v))
        (kept_before (is_admitted zs publisher v) (has_subscription t) w.subscriptions
        (All-weaker (IsOwnSubscription t) (λ s. t.connections s.conn ≡ false → is_admitted zs publisher v s ≡ false) (λ s of out. not_admitted v s (sym of ∙ out) is) w.subscriptions own)) Q

    own_served : (v : View) → t.accounts v.account ≡ true → ArePaired t m n (served word (admitted zs w publisher v)) (served word (admitted own_sessions p publisher v))
    own_served v is = pairs_served t m n word (admitted zs w publisher v) (admitted own_sessions p publisher v) (own_admitted v is)

    own_deliveries : (v : View) → t.accounts v.account ≡ true → map unmarked (deliveries own_sessions p publisher v word) ≡ map unmarked (deliveries zs w publisher v word)
    own_deliveries v is =
        let S = own_served v is in
        let f : List Session → Subscription → Addressed = λ ys s. unmarked (noted_for ys (addressed_to v.message s)) in
        let all : (ys : List Session) (ss : List Subscription) → map unmarked (map (noted_for ys) (map (addressed_to v.message) ss)) ≡ map (f ys) ss =
        λ ys ss. mapped_twice (noted_for ys) unmarked (map (addressed_to v.message) ss) ∙ mapped_twice (addressed_to v.message) (λ a. unmarked (noted_for ys a)) ss in
        all own_sessions (served word (admitted own_sessions p publisher v))
        ∙ sym (pairs_mapped t m n (f zs) (f own_sessions) (served word (admitted zs w publisher v)) (served word (admitted own_sessions p publisher v)) S
        (λ k d h. let a : Pair = get_or S.pairs k d in
        ap (λ (o : Option Session). record { id = 0; conn = a.0.conn; delivery = delivery_to v.message a.0; noted = note_for v.message.reply o }) (sym (session_kept t a.0.conn zs (S.within k d h)))
        ∙ ap (f own_sessions) (S.same k d h)))
        ∙ sym (all zs (served word (admitted zs w publisher v)))

    own_to : (v : View) → t.accounts v.account ≡ true → All (IsTo t true) (deliveries zs w publisher v word)
    own_to v is =
        let S = own_served v is in
        All-map (IsTo t true) (noted_for zs) (map (addressed_to v.message) (served word (admitted zs w publisher v)))
        (All-map (λ a. IsTo t true (noted_for zs a)) (addressed_to v.message) (served word (admitted zs w publisher v))
        (subst (All (λ (s : Subscription). t.connections s.conn ≡ true)) S.first (All-map (λ (s : Subscription). t.connections s.conn ≡ true) first_of S.pairs S.within)))

    -- a subscription that has counted a message is of whom it was
    counted_own : (items : List Item) (s : Subscription) → IsOwnSubscription t s → IsOwnSubscription t (counted items s)
    counted_own items s is = by (has_entered items s && nat_lt s.received 18446744073709551615)
      where
        by : (b : Bool) → IsOwnSubscription t (cond b (record s { received = s.received + 1 }) s)
        by true = is
        by false = is

    left_own : (items : List Item) → All (IsOwnSubscription t) (unended (map (counted items) w.subscriptions))
    left_own items =
        All-filter (λ s. not (has_ended s)) (IsOwnSubscription t) (map (counted items) w.subscriptions)
        (All-map (IsOwnSubscription t) (counted items) w.subscriptions (All-weaker (IsOwnSubscription t) (λ s. IsOwnSubscription t (counted items s)) (counted_own items) w.subscriptions own))

    -- what the deliveries of a view of one of their accounts meet
    own_delivered : (v : View) → t.accounts v.account ≡ true → ◌≡◌ {A = List Session × List Item} (delivered p.moment (deliveries own_sessions p publisher v word) p.sessions)
        (sessions_of t (delivered w.moment (deliveries zs w publisher v word) w.sessions).0, (delivered w.moment (deliveries zs w publisher v word) w.sessions).1)
    own_delivered v is =
        let ds : List Addressed = deliveries zs w publisher v word in
        let es : List Addressed = deliveries own_sessions p publisher v word in
        ap (λ (now : ℕ). delivered now es p.sessions) part.moment
        ∙ ap (λ (ys : List Session). delivered w.moment es ys) part.sessions
        ∙ sym (delivered_unmarked w.moment es (sessions_of t w.sessions))
        ∙ ap (λ (all : List Addressed). delivered w.moment all (sessions_of t w.sessions)) (own_deliveries v is)
        ∙ delivered_unmarked w.moment ds (sessions_of t w.sessions)
        ∙ delivered_own t w.moment ds w.sessions (own_to v is)

    pub routed_own : (v : View) → t.accounts v.account ≡ true → IsClosed w.policy t.accounts → AreSeenAlike t (routed zs w publisher v word) (routed own_sessions p publisher v word)
    routed_own v is closed =
        let X : List Session × List Item = delivered w.moment (deliveries zs w publisher v word) w.sessions in
        let Y : List Session × List Item = delivered p.moment (deliveries own_sessions p publisher v word) p.sessions in
        let e : ◌≡◌ {A = List Session × List Item} Y (sessions_of t X.0, X.1) = own_delivered v is in
        let items : Y.1 ≡ X.1 = ap (λ (y : List Session × List Item). y.1) e in
        let subs : ArePaired t m n (unended (map (counted X.1) (subscriptions_of t w.subscriptions))) (unended (map (counted X.1) p.subscriptions)) =
        pairs_counted t m n X.1 (subscriptions_of t w.subscriptions) p.subscriptions part.subscriptions in
        record {
          items = items;
          part = record {
            capacity = part.capacity;
            policy = part.policy;
            moment = part.moment;
            sessions = ap (λ (y : List Session × List Item). y.0) e;
            subscriptions = subst (λ xs. ArePaired t m n xs (unended (map (counted Y.1) p.subscriptions))) (sym (changed_subscriptions t (counted X.1) (counted_conn t m n X.1) w.subscriptions))
                (subst (λ is'. ArePaired t m n (unended (map (counted X.1) (subscriptions_of t w.subscriptions))) (unended (map (counted is') p.subscriptions))) (sym items) subs);
            routes = part.routes;
          };
          own = left_own X.1;
          closed = closed;
        }

    -- ---- in an account of others

    others_to : (v : View) → t.accounts v.account ≡ false → All (IsTo t false) (deliveries zs w publisher v word)
    others_to v out =
        All-map (IsTo t false) (noted_for zs) (map (addressed_to v.message) (served word (admitted zs w publisher v)))
        (All-map (λ a. IsTo t false (noted_for zs a)) (addressed_to v.message) (served word (admitted zs w publisher v))
        (All-filter (is_served word (admitted zs w publisher v)) (λ (s : Subscription). t.connections s.conn ≡ false) (admitted zs w publisher v)
        (passing_all (is_admitted zs publisher v) (IsOwnSubscription t) (λ (s : Subscription). t.connections s.conn ≡ false) (λ s of e. of ∙ ap t.accounts (admitted_of v s e) ∙ out) w.subscriptions own)))

    pub routed_others : (v : View) → t.accounts v.account ≡ false → All (λ s. has_ended s ≡ false) w.subscriptions → HasStayed t (routed zs w publisher v word).1 p
    routed_others v out standing =
        let ds : List Addressed = deliveries zs w publisher v word in
        let X : List Session × List Item = delivered w.moment ds w.sessions in
        let elsewhere : All (IsElsewhere t) X.1 = items_elsewhere t w.moment ds w.sessions (others_to v out) in
        record {
          part = record {
            capacity = part.capacity;
            policy = part.policy;
            moment = part.moment;
            sessions = part.sessions ∙ sym (delivered_others t w.moment ds w.sessions (others_to v out));
            subscriptions = subst (λ xs. ArePaired t m n xs p.subscriptions)
                (sym (unchanged_subscriptions t (counted X.1) (counted_conn t m n X.1) w.subscriptions standing (λ s is. not_counted t X.1 s is elsewhere))) part.subscriptions;
            routes = part.routes;
          };
          own = left_own X.1;
          standing = All-weaker (λ s. not (has_ended s) ≡ true) (λ s. has_ended s ≡ false) (λ s e. turned (has_ended s) e) (unended (map (counted X.1) w.subscriptions))
              (filter_passes (λ s. not (has_ended s)) (map (counted X.1) w.subscriptions));
        }
      where
        turned : (b : Bool) → not b ≡ true → b ≡ false
        turned false e = refl
        turned true e = absurd (cc)

  -- ---- requests

  same_exporter : (w p : World) → IsPartOf t w p → (account : Name) → t.accounts account ≡ true → exporter_on_least p.policy (exporter_of account p.routes) ≡ exporter_on_least w.policy (exporter_of account w.routes)
  same_exporter w p part account is =
      sym (least_looked p.policy account p.routes)
      ∙ ap (exporter_of account) part.routes
      ∙ has t.accounts account (exporters_on_least w.policy w.routes) is
      ∙ least_looked w.policy account w.routes

  same_full : (w p : World) → IsPartOf t w p → (account : Name) → t.accounts account ≡ true → is_full 1 w.moment (exporter_of account p.routes) ≡ is_full 1 w.moment (exporter_of account w.routes)
  same_full w p part account is =
      sym (least_full p.policy 1 w.moment (exporter_of account p.routes))
      ∙ ap (is_full 1 w.moment) (same_exporter w p part account is)
      ∙ least_full w.policy 1 w.moment (exporter_of account w.routes)

  same_next : (w p : World) → IsPartOf t w p → (account : Name) → t.accounts account ≡ true → next_subject word (exporter_of account p.routes) ≡ next_subject word (exporter_of account w.routes)
  same_next w p part account is = ap (λ (e : Exporter). next_subject word e) (same_exporter w p part account is)

  same_route : (w p : World) → IsPartOf t w p → IsClosed w.policy t.accounts → (row : Row) → t.accounts row.importer ≡ true → (reply : List Token) →
      route_for p.policy row reply word p.moment ≡ route_for w.policy row reply word w.moment
  same_route w p part closed row is reply =
      ap (λ (doc : PolicyDoc). route_for doc row reply word p.moment) part.policy
      ∙ ap (λ terms. record { word = word; row = row; reply = reply; noted = p.moment; terms = terms }) (terms_in_part t.accounts w.policy closed row is)
      ∙ ap (λ (now : ℕ). route_for w.policy row reply word now) part.moment

  opened_own : (w p : World) → IsPartOf t w p → IsClosed w.policy t.accounts → (account : Name) → t.accounts account ≡ true → (row : Row) → t.accounts row.importer ≡ true → (reply : List Token) →
      IsPartOf t (record w { routes = opened account (route_for w.policy row reply word w.moment) w.routes }) (record p { routes = opened account (route_for p.policy row reply word p.moment) p.routes })
  opened_own w p part closed account is row of reply =
      let r : Route = route_for w.policy row reply word w.moment in
      let theirs : List (Name × Exporter) = exporters_of t.accounts (exporters_on_least w.policy w.routes) in
      record {
        capacity = part.capacity;
        policy = part.policy;
        moment = part.moment;
        sessions = part.sessions;
        subscriptions = part.subscriptions;
        routes =
            least_opened p.policy account (route_for p.policy row reply word p.moment) p.routes
            ∙ ap (opened account (on_least p.policy (route_for p.policy row reply word p.moment))) part.routes
            ∙ ap (λ q. opened account (on_least p.policy q) theirs) (same_route w p part closed row of reply)
            ∙ ap (λ (doc : PolicyDoc). opened account (on_least doc r) theirs) part.policy
            ∙ ap (λ (x : Row). opened account (record r { row = x }) theirs) (sym (least_in_row t.accounts w.policy row of))
            ∙ sym (ap (exporters_of t.accounts) (least_opened w.policy account r w.routes)
            ∙ opens t.accounts account (on_least w.policy r) (exporters_on_least w.policy w.routes)
            ∙ ap (λ b. cond b (opened account (on_least w.policy r) theirs) theirs) is);
      }

  requested_own : (w p : World) (part : IsPartOf t w p) → All (IsOwnSubscription t) w.subscriptions → IsClosed w.policy t.accounts → (msg : Message) (account : Name) → t.accounts account ≡ true → (s : List Token) (row : Row) →
      t.accounts row.importer ≡ true → (reply : Option (List Token)) → AreSeenAlike t (requested zs w publisher msg word account s row reply) (requested own_sessions p publisher msg word account s row reply)
  requested_own w p part own closed msg account is s row of None = routed_own w p part own (view_of account s msg) is closed
  requested_own w p part own closed msg account is s row of (Some reply) =
      subst (λ full. AreSeenAlike t (requested zs w publisher msg word account s row (Some reply)) (requested_by nobody' full own_sessions p publisher msg word account s row reply)) (sym full)
      (subst (λ nobody''. AreSeenAlike t (requested zs w publisher msg word account s row (Some reply)) (requested_by nobody'' (is_full 1 w.moment (exporter_of account w.routes)) own_sessions p publisher msg word account s row reply)) (sym nobody)
      (by (is_nil (admitted zs w publisher (view_of account s msg))) (is_full 1 w.moment (exporter_of account w.routes))))
    where
      nobody' : Bool
      nobody' = is_nil (admitted own_sessions p publisher (view_of account s msg))

      nobody : is_nil (admitted own_sessions p publisher (view_of account s msg)) ≡ is_nil (admitted zs w publisher (view_of account s msg))
      nobody = nil_paired t w.number p.number (admitted zs w publisher (view_of account s msg)) (admitted own_sessions p publisher (view_of account s msg)) (own_admitted w p part own (view_of account s msg) is)

      full : is_full 1 p.moment (exporter_of account p.routes) ≡ is_full 1 w.moment (exporter_of account w.routes)
      full = ap (λ (now : ℕ). is_full 1 now (exporter_of account p.routes)) part.moment ∙ same_full w p part account is

      by : (a b : Bool) → AreSeenAlike t (requested_by a b zs w publisher msg word account s row reply) (requested_by a b own_sessions p publisher msg word account s row reply)
      by true b = record { items = refl; part = part; own = own; closed = closed }
      by false true = record { items = refl; part = part; own = own; closed = closed }
      by false false =
          let v : World → View = λ u. view_with account s (Some (next_subject word (exporter_of account u.routes))) msg in
          let w1 : World = record w { routes = opened account (route_for w.policy row reply word w.moment) w.routes } in
          let p1 : World = record p { routes = opened account (route_for p.policy row reply word p.moment) p.routes } in
          subst (λ (next : List Token). AreSeenAlike t (routed zs w1 publisher (v w) word) (routed own_sessions p1 publisher (view_with account s (Some next) msg) word)) (sym (same_next w p part account is))
          (routed_own w1 p1 (opened_own w p part closed account is row of reply) own (v w) is closed)

  requested_others : (w p : World) (part : IsPartOf t w p) → All (IsOwnSubscription t) w.subscriptions → All (λ s. has_ended s ≡ false) w.subscriptions → (msg : Message) (account : Name) → t.accounts account ≡ false →
      (s : List Token) (row : Row) (reply : Option (List Token)) → HasStayed t (requested zs w publisher msg word account s row reply).1 p
  requested_others w p part own standing msg account out s row None = routed_others w p part own (view_of account s msg) out standing
  requested_others w p part own standing msg account out s row (Some reply) = by (is_nil (admitted zs w publisher (view_of account s msg))) (is_full 1 w.moment (exporter_of account w.routes))
    where
      by : (a b : Bool) → HasStayed t (requested_by a b zs w publisher msg word account s row reply).1 p
      by true b = record { part = part; own = own; standing = standing }
      by false true = record { part = part; own = own; standing = standing }
      by false false =
          let r : Route = route_for w.policy row reply word w.moment in
          let w1 : World = record w { routes = opened account r w.routes } in
          let part1 : IsPartOf t w1 p = record {
            capacity = part.capacity;
            policy = part.policy;
            moment = part.moment;
            sessions = part.sessions;
            subscriptions = part.subscriptions;
            routes =
                part.routes
                ∙ sym (ap (exporters_of t.accounts) (least_opened w.policy account r w.routes)
                ∙ opens t.accounts account (on_least w.policy r) (exporters_on_least w.policy w.routes)
                ∙ ap (λ b. cond b (opened account (on_least w.policy r) (exporters_of t.accounts (exporters_on_least w.policy w.routes))) (exporters_of t.accounts (exporters_on_least w.policy w.routes))) out);
          } in
          routed_others w1 p part1 own (view_with account s (Some (next_subject word (exporter_of account w.routes))) msg) out standing

  -- ---- views

  view_own : (w p : World) → IsPartOf t w p → All (IsOwnSubscription t) w.subscriptions → IsClosed w.policy t.accounts → (msg : Message) (v : ViewItem) → IsViewWithin t.accounts true v →
      AreSeenAlike t (in_view zs w publisher msg word v) (in_view own_sessions p publisher msg word v)
  view_own w p part own closed msg (TooLong row) within = record { items = refl; part = part; own = own; closed = closed }
  view_own w p part own closed msg (At account s Own) within = routed_own w p part own (view_of account s msg) within.0 closed
  view_own w p part own closed msg (At account s (Stream row)) within = routed_own w p part own (view_of account s msg) within.0 closed
  view_own w p part own closed msg (At account s (Service row)) within = requested_own w p part own closed msg account within.0 s row within.1 msg.reply
  view_own w p part own closed msg (At account s (Response row)) within = routed_own w p part own (view_with account s None msg) within.0 closed

  view_others : (w p : World) → IsPartOf t w p → All (IsOwnSubscription t) w.subscriptions → All (λ s. has_ended s ≡ false) w.subscriptions → (msg : Message) (v : ViewItem) → IsViewWithin t.accounts false v →
      HasStayed t (in_view zs w publisher msg word v).1 p
  view_others w p part own standing msg (TooLong row) within = record { part = part; own = own; standing = standing }
  view_others w p part own standing msg (At account s Own) within = routed_others w p part own (view_of account s msg) within.0 standing
  view_others w p part own standing msg (At account s (Stream row)) within = routed_others w p part own (view_of account s msg) within.0 standing
  view_others w p part own standing msg (At account s (Service row)) within = requested_others w p part own standing msg account within.0 s row msg.reply
  view_others w p part own standing msg (At account s (Response row)) within = routed_others w p part own (view_with account s None msg) within.0 standing

  pub views_own : (w p : World) → IsPartOf t w p → All (IsOwnSubscription t) w.subscriptions → IsClosed w.policy t.accounts → (msg : Message) (vs : List ViewItem) → All (IsViewWithin t.accounts true) vs →
      AreSeenAlike t (in_views zs w publisher msg word vs) (in_views own_sessions p publisher msg word vs)
  views_own w p part own closed msg [] within = record { items = refl; part = part; own = own; closed = closed }
  views_own w p part own closed msg (v ∷ vs) within =
      let a : List Item × World = in_view zs w publisher msg word v in
      let b : List Item × World = in_view own_sessions p publisher msg word v in
      let first : AreSeenAlike t a b = view_own w p part own closed msg v (All-head (IsViewWithin t.accounts true) v vs within) in
      let rest : AreSeenAlike t (in_views zs a.1 publisher msg word vs) (in_views own_sessions b.1 publisher msg word vs) =
      views_own a.1 b.1 first.part first.own first.closed msg vs (All-tail (IsViewWithin t.accounts true) v vs within) in
      record {
        items = ap (λ is. is ++ (in_views own_sessions b.1 publisher msg word vs).0) first.items ∙ ap (λ is. a.0 ++ is) rest.items;
        part = rest.part;
        own = rest.own;
        closed = rest.closed;
      }

  pub views_others : (w p : World) → IsPartOf t w p → All (IsOwnSubscription t) w.subscriptions → All (λ s. has_ended s ≡ false) w.subscriptions → (msg : Message) (vs : List ViewItem) → All (IsViewWithin t.accounts false) vs →
      HasStayed t (in_views zs w publisher msg word vs).1 p
  views_others w p part own standing msg [] within = record { part = part; own = own; standing = standing }
  views_others w p part own standing msg (v ∷ vs) within =
      let first : HasStayed t (in_view zs w publisher msg word v).1 p = view_others w p part own standing msg v (All-head (IsViewWithin t.accounts false) v vs within) in
      views_others (in_view zs w publisher msg word v).1 p first.part first.own first.standing msg vs (All-tail (IsViewWithin t.accounts false) v vs within)
