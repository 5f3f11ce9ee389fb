-- Each response route was opened by the step of one request.
use Rattle.std.proofs.Common.{◌≡◌, ◌∙◌, ◌+◌, ◌<◌, ◌≤◌, ℕ, Bool, true, false, cond, List, [], ◌∷◌, ◌++◌, append_assoc, filter, get_or, Option, Some, None, Result, Ok, Err, ap, sym, refl, subst, arith, max}
use Rattle.std.specs.Prelude.{All, IfOk, IsSomeAnd, nat_le, length, unwrap_or, ⊤}
use Rattle.std.specs.List.{cons_option, filter_map}
use Rattle.std.specs.Map.{lookup}
use Rattle.std.specs.Option.{option_map}
use Rattle.std.proofs.lemmas.List.{append-nil}
use Rattle.std.proofs.lemmas.List.Elements.{All-nil, All-cons, All-head, All-tail, All-append}
use Rattle.std.proofs.lemmas.Slice.Eq.{bytes_eq-Decides}
use Rattle.subjects.specs.Subject.{Token}
use Rattle.policy_doc.specs.declared.exports.document.Kind.{Kind}
use Rattle.policy_doc.specs.declared.exports.document.Kind.TheVariants as kind
use Rattle.policy_doc.specs.declared.exports.document.Row.{Row}
use Rattle.policy_doc.specs.declared.document.PolicyDoc.{PolicyDoc}
use Rattle.permissions.specs.Verdicts.{subscribe_verdict}
use Rattle.permissions.specs.declared.verdict.By.{By}
use Rattle.permissions.specs.declared.verdict.Verdict.{Verdict}
use Rattle.permissions.specs.declared.verdict.Verdict.TheVariants.{Allowed, DeniedBy, NoAllow, NoQueueAllow}
use Rattle.policy_ready.specs.Users.{user_with_password}
use Rattle.policy_ready.specs.declared.ready.User.{User}
use Rattle.events.specs.Messages.{Message}
use Rattle.events.specs.declared.event.Command.{Command}
use Rattle.events.specs.declared.event.Command.TheVariants.{Connect, Sub, Unsub, Pub, Take, Close, Reload}
use Rattle.events.specs.declared.answer.Entry.{Entry}
use Rattle.events.specs.declared.answer.Outcome.{Outcome}
use Rattle.events.specs.declared.answer.Outcome.TheVariants.{SameSid, SubLimit, Subscribed}
use Rattle.events.specs.declared.refusal.HubRefusal.{HubRefusal}
use Rattle.events.specs.declared.refusal.HubRefusal.TheVariants.{SessionLimit}
use Rattle.world_sessions.specs.deliveries.Sessions.{session_of}
use Rattle.world_sessions.specs.declared.deliveries.session.Session.{Session}
use Rattle.world_subscriptions.specs.Subscriptions.{stands, has_all, subscription_of}
use Rattle.policy_ready.specs.imports.Across.{crossing, crossings_in, first_by, views, way_by}
use Rattle.policy_ready.specs.imports.Views.{is_route, rows_of}
use Rattle.policy_ready.specs.declared.imports.rows.ImportRow.{ImportRow}
use Rattle.policy_ready.specs.declared.imports.view.ViewItem.{ViewItem}
use Rattle.policy_ready.specs.declared.imports.view.ViewItem.TheVariants.{At, TooLong as Uncrossed}
use Rattle.policy_ready.specs.declared.imports.view.Way.TheVariants.{Own, Stream, Service, Response}
use Rattle.policy_ready.proofs.imports.Crossed.{seen_by}
use Rattle.service_exporter.specs.Limit.{is_full}
use Rattle.service_exporter.specs.Routes.{Exporter, Numbered, no_routes, on_row, route_on, spent_of, with_route}
use Rattle.service_exporter.specs.declared.route.NewRow.{NewRow}
use Rattle.service_exporter.specs.declared.route.Route.{Route}
use Rattle.service_routes.specs.Routes.{Name, changed, exporter_of, kept, opened, pruned, same_name, spent}
use Rattle.service_routes.proofs.Seen.{entered, others, seen}
use Rattle.service_routes.specs.service_rows.Rows.{renewed}
use Rattle.world.specs.World.{World, advanced, opening_world}
use Rattle.world.specs.Granting.{counted_on, verdict_on}
use Rattle.world.specs.Routing.{admitted, in_view, in_views, response_by, responses_on, route_for, view_of, under_subject}
use Rattle.world.specs.Routing.{is_nil, requested, requested_by}
use Rattle.account_mappings.specs.Drawing.{mapped_by}
use Rattle.account_mappings.specs.declared.drawing.Mapped.{Mapped}
use Rattle.account_mappings.specs.declared.drawing.Mapped.TheVariants.{Same, To, Unmapped, TooLong}
use Rattle.world.specs.Transition.{connected, in_new_session, in_session, moved, numbered, published, subscribed, transition, mapped_to, seen_as}
use Rattle.hub.specs.History.{IsEntry, IsLegalRun}
use Rattle.hub.specs.Routes.{EachRoute}
use Rattle.hub.proofs.Routes.{given-All}
use Rattle.hub.proofs.Rows.{each-kept, each-opened, each-pruned, each-spent, each-weaker, first-All}
use Rattle.hub_laws.specs.grants.Asked.{IsAsked, IsOpenedBy, RoutesAreAsked}
use Rattle.hub_laws.specs.grants.Dropping.{world_after}
use Rattle.hub_laws.specs.grants.Noted.{Step, step_of, steps_of}
use Rattle.hub_laws.proofs.grants.History.{step-is}

-- ---- numbers rise

abbrev Routes : Type 0
Routes = List (Name × Exporter)

abbrev Rises : Routes → Routes → Type 0
Rises before after = (name : Name) → (exporter_of name before).last ≤ (exporter_of name after).last

itself : (n : ℕ) → n ≤ n
itself n = omega arith

same_last : (name : Name) (all : Routes) → (exporter_of name all).last ≤ (exporter_of name all).last
same_last name all = omega arith

rises_on : (a b c : Routes) → Rises a b → Rises b c → Rises a c
rises_on a b c one two name = let x = one name in let y = two name in omega (arith, x, y)

next_is : (name : Name) (r : Route) (all : Routes) → (exporter_of name (opened name r all)).last ≡ (exporter_of name all).last + 1
next_is name r all = ap (λ (e : Exporter). e.last) (entered name (with_route r (exporter_of name all)) all)

rises-opened : (name : Name) (r : Route) (all : Routes) → Rises all (opened name r all)
rises-opened name r all other = here (same_name name other) refl
  where
    here : (b : Bool) → same_name name other ≡ b → (exporter_of other all).last ≤ (exporter_of other (opened name r all)).last
    here true same =
        subst (λ n. (exporter_of n all).last ≤ (exporter_of n (opened name r all)).last) ((bytes_eq-Decides name other).0 same)
        (let e = next_is name r all in omega (arith, e))
    here false apart = let e : (exporter_of other (opened name r all)).last ≡ (exporter_of other all).last = ap (λ (x : Exporter). x.last) (others name other r all apart) in omega (arith, e)

rises-spent : (name : Name) (s : List Token) (all : Routes) → Rises all (spent name s all)
rises-spent name s [] other = same_last other []
rises-spent name s (e ∷ all) other = here (same_name name e.0) (rises-spent name s all other)
  where
    first : (c : Bool) → (unwrap_or (cond c (Some e.1) (lookup (same_name other) all)) no_routes).last ≤ (unwrap_or (cond c (Some (spent_of s e.1)) (lookup (same_name other) all)) no_routes).last
    first true = itself e.1.last
    first false = same_last other all

    later : (c : Bool) → (exporter_of other all).last ≤ (exporter_of other (spent name s all)).last →
        (unwrap_or (cond c (Some e.1) (lookup (same_name other) all)) no_routes).last ≤ (unwrap_or (cond c (Some e.1) (lookup (same_name other) (changed name (spent_of s) all))) no_routes).last
    later true rises = itself e.1.last
    later false rises = rises

    here : (b : Bool) → (exporter_of other all).last ≤ (exporter_of other (spent name s all)).last →
        (exporter_of other (e ∷ all)).last ≤ (exporter_of other (cond b ((e.0, spent_of s e.1) ∷ all) (e ∷ changed name (spent_of s) all))).last
    here true rises = first (same_name other e.0)
    here false rises = later (same_name other e.0) rises

-- ---- the views of a message

-- a request is the importer's
abbrev IsOfImporter : Name → ViewItem → Type 0
IsOfImporter from (At account s Own) = ⊤
IsOfImporter from (At account s (Stream row)) = ⊤
IsOfImporter from (At account s (Service row)) = from ≡ row.importer
IsOfImporter from (At account s (Response row)) = ⊤
IsOfImporter from (Uncrossed row) = ⊤

crossing-of : (from : Name) (s : List Token) (r : ImportRow) (v : ViewItem) → crossing from s r ≡ Some v → IsOfImporter from v
crossing-of from s r (At b t Own) given = tt
crossing-of from s r (At b t (Stream row)) given = tt
crossing-of from s r (At b t (Response row)) given = tt
crossing-of from s r (Uncrossed row) given = tt
crossing-of from s r (At b t (Service row)) given = let it = seen_by r from b s t (Service row) given in by_kind r.kind it.0 it.1.source
  where
    by_kind : (k : Kind) → way_by k r.row ≡ Service row → first_by k r.exporter r.row.importer ≡ from → from ≡ row.importer
    by_kind kind.Stream way source = absurd (cc)
    by_kind kind.Service way source = let same : r.row ≡ row = cc in sym source ∙ ap (λ (x : Row). x.importer) same

views-of : (doc : PolicyDoc) (routes : Routes) (from : Name) (s : List Token) → All (IsOfImporter from) (views doc from s (responses_on routes from s))
views-of doc routes from s =
    first-All (IsOfImporter from) (At from s Own ∷ (crossings_in (rows_of doc) from s ++ responses_on routes from s))
    (All-cons (IsOfImporter from) (At from s Own) (crossings_in (rows_of doc) from s ++ responses_on routes from s) tt
    (All-append (IsOfImporter from) (crossings_in (rows_of doc) from s) (responses_on routes from s) (by_rows (is_route s)) (by_route (route_on s (exporter_of from routes).routes))))
  where
    by_rows : (b : Bool) → All (IsOfImporter from) (cond b [] (filter_map (crossing from s) (rows_of doc)))
    by_rows true = All-nil (IsOfImporter from)
    by_rows false = given-All (crossing from s) (λ (r : ImportRow). ⊤) (IsOfImporter from) (λ r v given _. crossing-of from s r v given) (rows_of doc) (λ k d h. tt)

    by_route : (o : Option Route) → All (IsOfImporter from) (cons_option (option_map response_by o) [])
    by_route None = All-nil (IsOfImporter from)
    by_route (Some r) = All-cons (IsOfImporter from) (response_by r) [] tt (All-nil (IsOfImporter from))

module _ (zs : List Session) (z : Session) (m : Message) (word : ℕ) where
  -- the moment stays, and numbers rise
  view-moment : (w : World) (v : ViewItem) → (in_view zs w z m word v).1.moment ≡ w.moment
  view-moment w (At account s Own) = refl
  view-moment w (At account s (Stream row)) = refl
  view-moment w (At account s (Response row)) = refl
  view-moment w (Uncrossed row) = refl
  view-moment w (At account s (Service row)) = by_reply m.reply
    where
      by_reply : (reply : Option (List Token)) → (requested zs w z m word account s row reply).1.moment ≡ w.moment
      by_reply None = refl
      by_reply (Some reply) = here (is_nil (admitted zs w z (view_of account s m))) (is_full 1 w.moment (exporter_of account w.routes))
        where
          here : (b f : Bool) → (requested_by b f zs w z m word account s row reply).1.moment ≡ w.moment
          here true f = refl
          here false true = refl
          here false false = refl

  view-rises : (w : World) (v : ViewItem) → Rises w.routes (in_view zs w z m word v).1.routes
  view-rises w (At account s Own) name = same_last name w.routes
  view-rises w (At account s (Stream row)) name = same_last name w.routes
  view-rises w (At account s (Response row)) name = same_last name w.routes
  view-rises w (Uncrossed row) name = same_last name w.routes
  view-rises w (At account s (Service row)) name = by_reply m.reply
    where
      by_reply : (reply : Option (List Token)) → (exporter_of name w.routes).last ≤ (exporter_of name (requested zs w z m word account s row reply).1.routes).last
      by_reply None = same_last name w.routes
      by_reply (Some reply) = here (is_nil (admitted zs w z (view_of account s m))) (is_full 1 w.moment (exporter_of account w.routes))
        where
          here : (b f : Bool) → (exporter_of name w.routes).last ≤ (exporter_of name (requested_by b f zs w z m word account s row reply).1.routes).last
          here true f = same_last name w.routes
          here false true = same_last name w.routes
          here false false = rises-opened account (route_for w.policy row reply word w.moment) w.routes name

  views-rise : (w : World) (vs : List ViewItem) → Rises w.routes (in_views zs w z m word vs).1.routes
  views-rise w [] name = same_last name w.routes
  views-rise w (v ∷ vs) name = rises_on w.routes (in_view zs w z m word v).1.routes (in_views zs w z m word (v ∷ vs)).1.routes (view-rises w v) (views-rise (in_view zs w z m word v).1 vs) name

  -- what holds of each route that is opened for the message, with a number that is given between these
  module _ (P : Name → Numbered → Type 0) (now : ℕ) (first final : Routes)
      (opens : (account : Name) (row : Row) (reply : List Token) (doc : PolicyDoc) (n : ℕ) → m.reply ≡ Some reply → z.user.account ≡ row.importer → (exporter_of account first).last < n → n ≤ (exporter_of account final).last → P account (n, route_for doc row reply word now)) where
    view-each : (w : World) (v : ViewItem) → w.moment ≡ now → Rises first w.routes → Rises (in_view zs w z m word v).1.routes final → IsOfImporter z.user.account v → EachRoute P w.routes → EachRoute P (in_view zs w z m word v).1.routes
    view-each w (At account s Own) at up down of are = are
    view-each w (At account s (Stream row)) at up down of are = are
    view-each w (At account s (Response row)) at up down of are = are
    view-each w (Uncrossed row) at up down of are = are
    view-each w (At account s (Service row)) at up down of are = by_reply m.reply refl down
      where
        by_reply : (reply : Option (List Token)) → m.reply ≡ reply → Rises (requested zs w z m word account s row reply).1.routes final → EachRoute P (requested zs w z m word account s row reply).1.routes
        by_reply None is down = are
        by_reply (Some reply) is down = here (is_nil (admitted zs w z (view_of account s m))) (is_full 1 w.moment (exporter_of account w.routes)) down
          where
            r : Route
            r = route_for w.policy row reply word w.moment

            here : (b f : Bool) → Rises (requested_by b f zs w z m word account s row reply).1.routes final → EachRoute P (requested_by b f zs w z m word account s row reply).1.routes
            here true f down = are
            here false true down = are
            here false false down =
                each-opened P account r w.routes
                (subst (λ n. P account ((exporter_of account w.routes).last + 1, route_for w.policy row reply word n)) (sym at)
                (opens account row reply w.policy ((exporter_of account w.routes).last + 1) is of
                (let low = up account in omega (arith, low))
                (let high : (exporter_of account (opened account r w.routes)).last ≤ (exporter_of account final).last = down account in let e = next_is account r w.routes in omega (arith, high, e)))) are

    views-each : (w : World) (vs : List ViewItem) → w.moment ≡ now → Rises first w.routes → Rises (in_views zs w z m word vs).1.routes final → All (IsOfImporter z.user.account) vs → EachRoute P w.routes → EachRoute P (in_views zs w z m word vs).1.routes
    views-each w [] at up down of are = are
    views-each w (v ∷ vs) at up down of are =
        let after : World = (in_view zs w z m word v).1 in
        let rest : Rises after.routes final = rises_on after.routes (in_views zs after z m word vs).1.routes final (views-rise after vs) down in
        views-each after vs (view-moment w v ∙ at) (rises_on first w.routes after.routes up (view-rises w v)) down (All-tail (IsOfImporter z.user.account) v vs of)
        (view-each w v at up rest (All-head (IsOfImporter z.user.account) v vs of) are)

-- ---- one command

-- what holds of each route that stands, and of each that a command opens, holds of each that stands after it
module _ (P : Name → Numbered → Type 0) (w : World) (final : Routes)
    (stays : (name : Name) (r : Numbered) (new : NewRow) → P name r → P name (r.0, on_row r.1 new))
    (are : EachRoute P w.routes) where
  abbrev After : Outcome × World → Type 0
  After r = Rises r.1.routes final → EachRoute P r.1.routes

  abbrev Opens : ℕ → Message → ℕ → Type 0
  Opens conn m word = (z : Session) → session_of w.sessions conn ≡ Some z → (account : Name) (row : Row) (reply : List Token) (doc : PolicyDoc) (n : ℕ) → m.reply ≡ Some reply → z.user.account ≡ row.importer → (exporter_of account w.routes).last < n → n ≤ (exporter_of account final).last → P account (n, route_for doc row reply word w.moment)

  in_session-each : (o : Option Session) (f : Session → Outcome × World) → ((z : Session) → o ≡ Some z → After (f z)) → IfOk (in_session o f) After
  in_session-each None f of = tt
  in_session-each (Some z) f of = of z refl

  connect : (conn : ℕ) (echo : Bool) (o : Option Session) (u : Option User) → IfOk (in_new_session w o (connected w conn echo u)) After
  connect conn echo (Some z) u = tt
  connect conn echo None u = by_limit (nat_le 4096 (length w.sessions)) u
    where
      by_limit : (l : Bool) (u : Option User) → IfOk (cond l (Err SessionLimit) (Ok (connected w conn echo u))) After
      by_limit true u = tt
      by_limit false None = λ _. are
      by_limit false (Some user) = λ _. are

  subscribe : (conn : ℕ) (account : List ℕ) (p : List Token) (queue : Option (List Token)) (sid : List ℕ) (v : Verdict) → After (subscribed w conn account p queue sid v)
  subscribe conn account p queue sid (DeniedBy i) = λ _. are
  subscribe conn account p queue sid NoAllow = λ _. are
  subscribe conn account p queue sid (NoQueueAllow i) = λ _. are
  subscribe conn account p queue sid (Allowed by) = by_sid (stands w.subscriptions conn sid) (has_all w.subscriptions conn)
    where
      by_sid : (a b : Bool) → After (cond a (SameSid, w) (cond b (SubLimit, w) (Subscribed, record w { subscriptions = w.subscriptions ++ subscription_of (w.number + 1) conn account p queue sid ∷ [] })))
      by_sid true b = λ _. are
      by_sid false true = λ _. are
      by_sid false false = λ _. are

  publish : (conn : ℕ) (m : Message) (word : ℕ) → Opens conn m word → (z : Session) → session_of w.sessions conn ≡ Some z → (v : Verdict) → After (published w z m word v)
  publish conn m word opens z at (DeniedBy i) = λ _. are
  publish conn m word opens z at NoAllow = λ _. are
  publish conn m word opens z at (NoQueueAllow i) = λ _. are
  publish conn m word opens z at (Allowed by) = by_mapping (mapped_by z.user.mappings m.subject word)
    where
      sends : (sent : Message) → sent.reply ≡ m.reply → After (seen_as w z by m.subject sent word)
      sends sent same = λ down.
          let counted : World = record w { sessions = counted_on by z.conn m.subject w.sessions } in
          let vs : List ViewItem = views w.policy z.user.account sent.subject (responses_on w.routes z.user.account sent.subject) in
          let left : Routes = (in_views w.sessions counted z sent word vs).1.routes in
          each-spent P z.user.account sent.subject left
          (views-each w.sessions z sent word P w.moment w.routes final (λ account row reply doc n wants. opens z at account row reply doc n (sym same ∙ wants)) counted vs refl (λ name. same_last name w.routes)
          (rises_on left (spent z.user.account sent.subject left) final (rises-spent z.user.account sent.subject left) down)
          (views-of w.policy w.routes z.user.account sent.subject) are)

      by_mapping : (mapped : Mapped) → After (mapped_to w z by m word mapped)
      by_mapping Same = sends m refl
      by_mapping (To s) = sends (under_subject s m) refl
      by_mapping Unmapped = λ _. are
      by_mapping (TooLong index) = λ _. are

  abbrev OpensBy : Command → Type 0
  OpensBy c = (conn : ℕ) (m : Message) (word : ℕ) → c ≡ Pub conn m word → Opens conn m word

  moved-each : (c : Command) → OpensBy c → IfOk (moved w c) After
  moved-each (Connect conn name password echo) opens = connect conn echo (session_of w.sessions conn) (user_with_password w.policy name password)
  moved-each (Sub conn p queue sid) opens = in_session-each (session_of w.sessions conn) _ (λ z at. subscribe conn z.user.account p queue sid (subscribe_verdict z.user.rules p queue))
  moved-each (Unsub conn sid most) opens = in_session-each (session_of w.sessions conn) _ (λ z at _. are)
  moved-each (Pub conn m word) opens = in_session-each (session_of w.sessions conn) _ (λ z at. publish conn m word (opens conn m word refl) z at (verdict_on w.moment z m.subject))
  moved-each (Take conn most) opens = in_session-each (session_of w.sessions conn) _ (λ z at _. are)
  moved-each (Close conn) opens = in_session-each (session_of w.sessions conn) _ (λ z at _. are)
  moved-each (Reload doc) opens = λ _. each-pruned P w.moment (kept (renewed w.policy doc) w.routes) (each-kept P P (renewed w.policy doc) w.routes (λ name r new _ of. stays name r new of) are)

-- ---- a run

asked-again : (steps : List Step) (name : Name) (r : Numbered) (new : NewRow) → IsAsked steps name r → IsAsked steps name (r.0, on_row r.1 new)
asked-again steps name r new is = let o = is.opened in record {
  before = is.before;
  made = is.made;
  since = is.since;
  all = is.all;
  opened = record { conn = o.conn; message = o.message; command = o.command; session = o.session; reply = o.reply; noted = o.noted; above = o.above; given = o.given };
}

asked-more : (steps : List Step) (step : Step) (name : Name) (r : Numbered) → IsAsked steps name r → IsAsked (steps ++ step ∷ []) name r
asked-more steps step name r is = record {
  before = is.before;
  made = is.made;
  since = is.since ++ step ∷ [];
  all = ap (λ l. l ++ step ∷ []) is.all ∙ append_assoc is.before (is.made ∷ is.since) (step ∷ []);
  opened = is.opened;
}

step-asked : (done : List Step) (w : World) (a : Entry) (next : World) → IsEntry w a next → EachRoute (IsAsked done) w.routes → EachRoute (IsAsked (done ++ step_of w a next ∷ [])) next.routes
step-asked done w a next is are = by_result (moved later a.event.what) (moved-each P later next.routes (asked-again steps) still a.event.what opens) is.outcome
  where
    later : World
    later = advanced w a.event.now

    steps : List Step
    steps = done ++ step_of w a next ∷ []

    P : Name → Numbered → Type 0
    P = IsAsked steps

    still : EachRoute P later.routes
    still = each-pruned P later.moment w.routes (each-weaker (IsAsked done) P (λ name r of. asked-more done (step_of w a next) name r of) w.routes are)

    opens : (conn : ℕ) (m : Message) (word : ℕ) → a.event.what ≡ Pub conn m word → (z : Session) → session_of w.sessions conn ≡ Some z → (account : Name) (row : Row) (reply : List Token) (doc : PolicyDoc) (n : ℕ) → m.reply ≡ Some reply → z.user.account ≡ row.importer → (exporter_of account later.routes).last < n → n ≤ (exporter_of account next.routes).last → P account (n, route_for doc row reply word later.moment)
    opens conn m word asked z at account row reply doc n wants of above given = record {
      before = done;
      made = step_of w a next;
      since = [];
      all = refl;
      opened = record {
        conn = conn;
        message = m;
        command = asked;
        session = subst (λ o. IsSomeAnd o (λ (y : Session). y.user.account ≡ row.importer)) (sym at) of;
        reply = wants;
        noted = refl;
        above = let e : (exporter_of account later.routes).last ≡ (exporter_of account w.routes).last = ap (λ (x : Exporter). x.last) (seen later.moment account w.routes) in omega (arith, above, e);
        given = given;
      };
    }

    by_result : (r : Result (Outcome × World) HubRefusal) → IfOk r (λ (x : Outcome × World). Rises x.1.routes next.routes → EachRoute P x.1.routes) → numbered (w.number + 1) r ≡ Ok (a.outcome, next) → EachRoute P next.routes
    by_result (Err e) follows made = absurd (cc)
    by_result (Ok x) follows made =
        let same : record x.1 { number = w.number + 1 } ≡ next = ap (world_after w) made in
        let routes : x.1.routes ≡ next.routes = ap (λ (v : World). v.routes) same in
        subst (EachRoute P) routes (follows (subst (λ l. Rises x.1.routes l) routes (λ name. same_last name x.1.routes)))

run-asked : (done : List Step) (es : List Entry) (w after : World) → EachRoute (IsAsked done) w.routes → IsLegalRun w es after → EachRoute (IsAsked (done ++ steps_of w es)) after.routes
unfolding IsLegalRun
run-asked done [] w after are run =
    subst (λ l. EachRoute (IsAsked l) after.routes) (sym (append-nil done)) (subst (λ (v : World). EachRoute (IsAsked done) v.routes) (sym run) are)
run-asked done (a ∷ es) w after are run =
    subst (λ (v : World). EachRoute (IsAsked (done ++ step_of w a v ∷ steps_of v es)) after.routes) (sym (step-is w a run.0 run.1))
    (subst (λ l. EachRoute (IsAsked l) after.routes) (append_assoc done (step_of w a run.0 ∷ []) (steps_of run.0 es))
    (run-asked (done ++ step_of w a run.0 ∷ []) es run.0 after (step-asked done w a run.0 run.1 are) run.2))

pub are_asked : RoutesAreAsked
are_asked policy capacity es w run = run-asked [] es (opening_world policy capacity) w (All-nil (λ (e : Name × Exporter). All (IsAsked [] e.0) e.1.routes)) run
