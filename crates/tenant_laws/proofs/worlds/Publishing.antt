-- What a publish makes of a world, of tenants' own sessions and of others.
use Rattle.std.proofs.Common.{◌≡◌, ◌∙◌, ◌++◌, ℕ, Bool, true, false, not, cond, filter, length, map, nat_lt, List, [], ◌∷◌, Option, Some, None, ap, sym, refl, subst, unwrap_or}
use Rattle.std.specs.Prelude.{All}
use Rattle.std.specs.List.{cons_option, filter_map}
use Rattle.std.specs.Str.{bytes_eq}
use Rattle.std.proofs.lemmas.List.{map-append}
use Rattle.std.specs.Map.{lookup}
use Rattle.std.specs.Option.{option_map}
use Rattle.std.specs.Cmp.Lexicographic.{bytes_decides}
use Rattle.std.proofs.lemmas.List.Elements.{All-nil, All-cons, All-head, All-tail, All-map, All-weaker}
use Rattle.subjects.specs.Subject.{Token}
use Rattle.policy_doc.specs.declared.document.PolicyDoc.{PolicyDoc}
use Rattle.policy_sets.specs.Sets.{IsClosed}
use Rattle.permissions.specs.declared.verdict.By.{By}
use Rattle.permissions.specs.declared.verdict.By.TheVariants.{All as AllowsAll, Index, Grant}
use Rattle.permissions.specs.declared.verdict.Verdict.{Verdict}
use Rattle.permissions.specs.declared.verdict.Verdict.TheVariants.{Allowed, DeniedBy, NoAllow, NoQueueAllow}
use Rattle.policy_doc.specs.declared.exports.document.Kind.{Kind}
use Rattle.policy_doc.specs.declared.exports.document.Kind.TheVariants as kind
use Rattle.policy_doc.specs.declared.exports.document.Row.{Row}
use Rattle.policy_ready.specs.imports.Across.{across, crossed, crossing, crossings_in, source_of, target_of, views, way_by, way_of}
use Rattle.policy_ready.specs.imports.Views.{first_of_each, is_at, is_route, is_same, rows_of}
use Rattle.policy_ready.specs.declared.imports.rows.ImportRow.{ImportRow}
use Rattle.events.specs.declared.answer.Item.TheVariants.{Unmapped as UnmappedItem, MappedTooLong}
use Rattle.policy_ready.specs.declared.imports.view.ViewItem.{ViewItem}
use Rattle.policy_ready.specs.declared.imports.view.ViewItem.TheVariants.{At, TooLong as Uncrossed}
use Rattle.policy_ready.specs.declared.imports.view.Way.{Way}
use Rattle.policy_ready.specs.declared.imports.view.Way.TheVariants.{Own, Stream, Service, Response}
use Rattle.service_exporter.specs.service_subjects.Names.{is_on}
use Rattle.service_exporter.specs.Routes.{Exporter, Numbered, no_routes, route_on}
use Rattle.service_exporter.specs.declared.route.Route.{Route}
use Rattle.service_routes.specs.Routes.{Name, exporter_of, same_name, spent}
use Rattle.events.specs.Messages.{Message}
use Rattle.events.specs.declared.answer.Item.{Item}
use Rattle.events.specs.declared.answer.Outcome.{Outcome}
use Rattle.events.specs.declared.answer.Outcome.TheVariants.{Published}
use Rattle.world_sessions.specs.deliveries.Replying.{responding, ending}
use Rattle.world_sessions.specs.declared.deliveries.session.Session.{Session}
use Rattle.world_routing.specs.World.{World}
use Rattle.world_routing.specs.Granting.{counted_on, ended_on}
use Rattle.world_routing.specs.Routing.{in_view, in_views}
use Rattle.world.specs.Routing.{response_by, responses_on}
use Rattle.policy_ready.specs.Drawing.{mapped_by}
use Rattle.policy_ready.specs.Mapped.{Mapped}
use Rattle.policy_ready.specs.Mapped.TheVariants.{Same, To, Unmapped, TooLong}
use Rattle.world.specs.Routing.{under_subject}
use Rattle.world_routing.specs.Publishing.{mapped_to, published, seen_as, seen_nowhere}
use Rattle.tenant_laws.specs.parts.Laws.{IsViewWithin}
use Rattle.tenant_laws.specs.parts.Least.{all_on_least, exporter_on_least, exporters_on_least, on_least}
use Rattle.tenant_laws.specs.parts.Part.{exporters_of}
use Rattle.tenant_laws.proofs.parts.Routes.{has, spends}
use Rattle.tenant_laws.proofs.parts.Policy.{views_in_part, views_stay}
use Rattle.tenant_laws.proofs.parts.OnLeast.{least_looked, least_route_on, least_spent}
use Rattle.tenant_laws.specs.worlds.Tenants.{Tenants, sessions_of}
use Rattle.tenant_laws.specs.worlds.Alike.{AreApart, IsOwnExporter, IsPartOf}
use Rattle.tenant_laws.proofs.worlds.Sessions.{changed_kept, others_kept}
use Rattle.tenant_laws.proofs.worlds.Views.{AreSeenAlike, HasStayed, views_others, views_own}

-- the same is answered, and the second world is still the tenants' part of the first
abbrev pub IsAnsweredAlike : Tenants → Outcome × World → Outcome × World → Type 0
IsAnsweredAlike t r s = (s.0 ≡ r.0) × IsPartOf t r.1 s.1

-- ---- which of the rows of one service a response comes by can't be seen

abbrev plain_way : Way → Way
plain_way Own = Own
plain_way (Stream row) = Stream row
plain_way (Service row) = Service row
plain_way (Response row) = Response (record { importer = row.importer; index = 0 })

abbrev plain : ViewItem → ViewItem
plain (At account s way) = At account s (plain_way way)
plain (Uncrossed row) = Uncrossed row

plain_view : (zs : List Session) (w : World) (z : Session) (m : Message) (word : ℕ) (v : ViewItem) → ◌≡◌ {A = List Item × World} (in_view zs w z m word (plain v)) (in_view zs w z m word v)
plain_view zs w z m word (Uncrossed row) = refl
plain_view zs w z m word (At account s Own) = refl
plain_view zs w z m word (At account s (Stream row)) = refl
plain_view zs w z m word (At account s (Service row)) = refl
plain_view zs w z m word (At account s (Response row)) = refl

plain_views : (zs : List Session) (w : World) (z : Session) (m : Message) (word : ℕ) (vs : List ViewItem) → ◌≡◌ {A = List Item × World} (in_views zs w z m word (map plain vs)) (in_views zs w z m word vs)
plain_views zs w z m word [] = refl
plain_views zs w z m word (v ∷ vs) =
    let both : List Item × World → List Item × World → List Item × World = λ a b. (a.0 ++ b.0, b.1) in
    ap (λ (a : List Item × World). both a (in_views zs a.1 z m word (map plain vs))) (plain_view zs w z m word v)
    ∙ ap (both (in_view zs w z m word v)) (plain_views zs (in_view zs w z m word v).1 z m word vs)

plain_at : (a : List ℕ) (s : List Token) (v : ViewItem) → is_at a s (plain v) ≡ is_at a s v
plain_at a s (At b u way) = refl
plain_at a s (Uncrossed row) = refl

plain_same : (v u : ViewItem) → is_same (plain v) (plain u) ≡ is_same v u
plain_same (At a s way) u = plain_at a s u
plain_same (Uncrossed row) u = refl

plain_others : (v : ViewItem) (us : List ViewItem) → filter (λ u. not (is_same (plain v) u)) (map plain us) ≡ map plain (filter (λ u. not (is_same v u)) us)
plain_others v [] = refl
plain_others v (u ∷ us) =
    ap (λ b. cond (not b) (plain u ∷ filter (λ x. not (is_same (plain v) x)) (map plain us)) (filter (λ x. not (is_same (plain v) x)) (map plain us))) (plain_same v u)
    ∙ by (is_same v u) (plain_others v us)
  where
    by : (b : Bool) → filter (λ x. not (is_same (plain v) x)) (map plain us) ≡ map plain (filter (λ x. not (is_same v x)) us) →
        cond (not b) (plain u ∷ filter (λ x. not (is_same (plain v) x)) (map plain us)) (filter (λ x. not (is_same (plain v) x)) (map plain us)) ≡ map plain (cond (not b) (u ∷ filter (λ x. not (is_same v x)) us) (filter (λ x. not (is_same v x)) us))
    by true later = later
    by false later = ap (λ l. plain u ∷ l) later

plain_firsts : (vs : List ViewItem) → first_of_each (map plain vs) ≡ map plain (first_of_each vs)
plain_firsts [] = refl
plain_firsts (v ∷ vs) = ap (λ us. plain v ∷ filter (λ u. not (is_same (plain v) u)) us) (plain_firsts vs) ∙ ap (λ us. plain v ∷ us) (plain_others v (first_of_each vs))

plain_crossing : (account : List ℕ) (s : List Token) (r : ImportRow) → option_map plain (crossing account s r) ≡ crossing account s r
plain_crossing account s r = by (bytes_eq (source_of r) account) (across r s)
  where
    way : (k : Kind) (row : Row) → plain_way (way_by k row) ≡ way_by k row
    way kind.Stream row = refl
    way kind.Service row = refl

    seen : (u : List Token) (b : Bool) → plain (cond b (Uncrossed r.row) (At (target_of r) u (way_of r))) ≡ cond b (Uncrossed r.row) (At (target_of r) u (way_of r))
    seen u true = refl
    seen u false = ap (At (target_of r) u) (way r.kind r.row)

    by : (b : Bool) (o : Option (List Token)) → option_map plain (cond b (option_map (crossed r) o) None) ≡ cond b (option_map (crossed r) o) None
    by false o = refl
    by true None = refl
    by true (Some u) = ap (λ v. Some v) (seen u (nat_lt 512 (length u)))

plain_given : (account : List ℕ) (s : List Token) (rows : List ImportRow) → map plain (filter_map (crossing account s) rows) ≡ filter_map (crossing account s) rows
plain_given account s [] = refl
plain_given account s (r ∷ rows) = by (crossing account s r) (plain_crossing account s r) (plain_given account s rows)
  where
    by : (o : Option ViewItem) → option_map plain o ≡ o → map plain (filter_map (crossing account s) rows) ≡ filter_map (crossing account s) rows →
        map plain (cons_option o (filter_map (crossing account s) rows)) ≡ cons_option o (filter_map (crossing account s) rows)
    by None e later = later
    by (Some v) e later = ap (λ o. cons_option o (map plain (filter_map (crossing account s) rows))) e ∙ ap (λ l. v ∷ l) later

plain_crossings : (account : List ℕ) (s : List Token) (rows : List ImportRow) → map plain (crossings_in rows account s) ≡ crossings_in rows account s
plain_crossings account s rows = by (is_route s)
  where
    by : (b : Bool) → map plain (cond b [] (filter_map (crossing account s) rows)) ≡ cond b [] (filter_map (crossing account s) rows)
    by true = refl
    by false = plain_given account s rows

-- views with responses by any of the rows
plain_all : (doc : PolicyDoc) (account : List ℕ) (s : List Token) (responses : List ViewItem) → views doc account s (map plain responses) ≡ map plain (views doc account s responses)
plain_all doc account s responses =
    let cs : List ViewItem = crossings_in (rows_of doc) account s in
    ap (λ xs. first_of_each (At account s Own ∷ (xs ++ map plain responses))) (sym (plain_crossings account s (rows_of doc)))
    ∙ ap (λ xs. first_of_each (At account s Own ∷ xs)) (sym (map-append plain cs responses))
    ∙ plain_firsts (At account s Own ∷ (cs ++ responses))

plain_within : (K : Name → Bool) (within : Bool) (v : ViewItem) → IsViewWithin K within v → IsViewWithin K within (plain v)
plain_within K within (Uncrossed row) is = is
plain_within K within (At account s Own) is = is
plain_within K within (At account s (Stream row)) is = is
plain_within K within (At account s (Service row)) is = is
plain_within K within (At account s (Response row)) is = is

plain_response : (doc : PolicyDoc) (s : List Token) (rs : List Numbered) → map plain (cons_option (option_map response_by (route_on s (all_on_least doc rs))) []) ≡ map plain (cons_option (option_map response_by (route_on s rs)) [])
plain_response doc s rs = ap (λ o. map plain (cons_option (option_map response_by o) [])) (least_route_on doc s rs) ∙ by (route_on s rs)
  where
    by : (o : Option Route) → map plain (cons_option (option_map response_by (option_map (on_least doc) o)) []) ≡ map plain (cons_option (option_map response_by o) [])
    by None = refl
    by (Some r) = refl

module _ (t : Tenants) where
  counted_own : (by : By) (conn : ℕ) (s : List Token) (zs : List Session) → t.connections conn ≡ true → sessions_of t (counted_on by conn s zs) ≡ counted_on by conn s (sessions_of t zs)
  counted_own AllowsAll conn s zs is = refl
  counted_own (Index i) conn s zs is = refl
  counted_own Grant conn s zs is = changed_kept t (responding s) (λ z. refl) conn zs is

  counted_others : (by : By) (conn : ℕ) (s : List Token) (zs : List Session) → t.connections conn ≡ false → sessions_of t (counted_on by conn s zs) ≡ sessions_of t zs
  counted_others AllowsAll conn s zs out = refl
  counted_others (Index i) conn s zs out = refl
  counted_others Grant conn s zs out = others_kept t (responding s) (λ z. refl) conn zs out

  ended_own : (by : By) (conn : ℕ) (s : List Token) (zs : List Session) → t.connections conn ≡ true → sessions_of t (ended_on by conn s zs) ≡ ended_on by conn s (sessions_of t zs)
  ended_own AllowsAll conn s zs is = refl
  ended_own (Index i) conn s zs is = refl
  ended_own Grant conn s zs is = changed_kept t (ending s) (λ z. refl) conn zs is

  ended_others : (by : By) (conn : ℕ) (s : List Token) (zs : List Session) → t.connections conn ≡ false → sessions_of t (ended_on by conn s zs) ≡ sessions_of t zs
  ended_others AllowsAll conn s zs out = refl
  ended_others (Index i) conn s zs out = refl
  ended_others Grant conn s zs out = others_kept t (ending s) (λ z. refl) conn zs out

  -- ---- responses

  abbrev IsForRequestOf : Name → Numbered → Type 0
  IsForRequestOf name r = t.accounts r.1.row.importer ≡ t.accounts name

  routes_of : (name : Name) (all : List (Name × Exporter)) → All (IsOwnExporter t) all → All (IsForRequestOf name) (exporter_of name all).routes
  routes_of name [] own = All-nil (IsForRequestOf name)
  routes_of name (e ∷ all) own = by (same_name name e.0) refl (routes_of name all (All-tail (IsOwnExporter t) e all own))
    where
      by : (b : Bool) → same_name name e.0 ≡ b → All (IsForRequestOf name) (exporter_of name all).routes →
          All (IsForRequestOf name) (unwrap_or (cond b (Some e.1) (lookup (same_name name) all)) no_routes).routes
      by true is later = subst (λ n. All (IsForRequestOf n) e.1.routes) (sym ((bytes_decides name e.0).0 is)) (All-head (IsOwnExporter t) e all own)
      by false is later = later

  response_within : (name : Name) (s : List Token) (rs : List Numbered) → All (IsForRequestOf name) rs → All (IsViewWithin t.accounts (t.accounts name)) (cons_option (option_map response_by (route_on s rs)) [])
  response_within name s [] of = All-nil (IsViewWithin t.accounts (t.accounts name))
  response_within name s (r ∷ rs) of = by (is_on s r.0 r.1.word) (response_within name s rs (All-tail (IsForRequestOf name) r rs of))
    where
      by : (b : Bool) → All (IsViewWithin t.accounts (t.accounts name)) (cons_option (option_map response_by (route_on s rs)) []) →
          All (IsViewWithin t.accounts (t.accounts name)) (cons_option (option_map response_by (cond b (Some r.1) (route_on s rs))) [])
      by true later =
          let is : t.accounts r.1.row.importer ≡ t.accounts name = All-head (IsForRequestOf name) r rs of in
          All-cons (IsViewWithin t.accounts (t.accounts name)) (response_by r.1) [] (is, is) (All-nil (IsViewWithin t.accounts (t.accounts name)))
      by false later = later

  pub views_within : (w : World) → IsClosed w.policy t.accounts → All (IsOwnExporter t) w.routes → (account : Name) (s : List Token) (within : Bool) → t.accounts account ≡ within →
      All (IsViewWithin t.accounts within) (views w.policy account s (responses_on w.routes account s))
  views_within w closed own account s within is =
      subst (λ b. All (IsViewWithin t.accounts b) (views w.policy account s (responses_on w.routes account s))) is
      (views_stay t.accounts w.policy closed account s (responses_on w.routes account s) (response_within account s (exporter_of account w.routes).routes (routes_of account w.routes own)))

  -- ---- a publish

  module _ (w p : World) (part : IsPartOf t w p) (apart : AreApart t w) (z : Session) (asked : List Token) (m : Message) (word : ℕ) where
    abbrev account : Name
    account = z.user.account

    abbrev after_views : By → World → List Item × World → Outcome × World
    after_views by x r = (Published by r.0, record r.1 { sessions = ended_on by z.conn asked r.1.sessions; routes = spent account m.subject r.1.routes })

    same_responses : t.accounts account ≡ true → map plain (responses_on p.routes account m.subject) ≡ map plain (responses_on w.routes account m.subject)
    same_responses is =
        let e : exporter_on_least p.policy (exporter_of account p.routes) ≡ exporter_on_least w.policy (exporter_of account w.routes) =
        sym (least_looked p.policy account p.routes) ∙ ap (exporter_of account) part.routes ∙ has t.accounts account (exporters_on_least w.policy w.routes) is ∙ least_looked w.policy account w.routes in
        sym (plain_response p.policy m.subject (exporter_of account p.routes).routes)
        ∙ ap (λ (x : Exporter). map plain (cons_option (option_map response_by (route_on m.subject x.routes)) [])) e
        ∙ plain_response w.policy m.subject (exporter_of account w.routes).routes

    same_views : t.accounts account ≡ true → map plain (views p.policy account m.subject (responses_on p.routes account m.subject)) ≡ map plain (views w.policy account m.subject (responses_on w.routes account m.subject))
    same_views is =
        sym (plain_all p.policy account m.subject (responses_on p.routes account m.subject))
        ∙ ap (views p.policy account m.subject) (same_responses is)
        ∙ ap (λ (doc : PolicyDoc). views doc account m.subject (map plain (responses_on w.routes account m.subject))) part.policy
        ∙ views_in_part t.accounts w.policy apart.closed account m.subject (map plain (responses_on w.routes account m.subject)) is
        ∙ plain_all w.policy account m.subject (responses_on w.routes account m.subject)

    counting_own : (by : By) → t.connections z.conn ≡ true → IsPartOf t (record w { sessions = counted_on by z.conn asked w.sessions }) (record p { sessions = counted_on by z.conn asked p.sessions })
    counting_own by is = record {
      capacity = part.capacity;
      policy = part.policy;
      moment = part.moment;
      sessions = ap (counted_on by z.conn asked) part.sessions ∙ sym (counted_own by z.conn asked w.sessions is);
      subscriptions = part.subscriptions;
      routes = part.routes;
    }

    seen_own : (by : By) → t.connections z.conn ≡ true → t.accounts account ≡ true → IsAnsweredAlike t (seen_as w z by asked m word) (seen_as p z by asked m word)
    seen_own by is of =
        let w0 : World = record w { sessions = counted_on by z.conn asked w.sessions } in
        let p0 : World = record p { sessions = counted_on by z.conn asked p.sessions } in
        let vs : List ViewItem = views w.policy account m.subject (responses_on w.routes account m.subject) in
        let us : List ViewItem = views p.policy account m.subject (responses_on p.routes account m.subject) in
        let theirs : List Session = sessions_of t w.sessions in
        let seen : AreSeenAlike t (in_views w.sessions w0 z m word (map plain vs)) (in_views theirs p0 z m word (map plain vs)) =
        views_own t w.sessions z word w0 p0 (counting_own by is) apart.subscriptions apart.closed m (map plain vs)
        (All-map (IsViewWithin t.accounts true) plain vs
        (All-weaker (IsViewWithin t.accounts true) (λ v. IsViewWithin t.accounts true (plain v)) (λ v in_it. plain_within t.accounts true v in_it) vs (views_within w apart.closed apart.routes account m.subject true of))) in
        let r : List Item × World = in_views w.sessions w0 z m word (map plain vs) in
        let one : ◌≡◌ {A = List Item × World} (in_views theirs p0 z m word (map plain vs)) (in_views p.sessions p0 z m word us) =
        ap (λ xs. in_views theirs p0 z m word xs) (sym (same_views of)) ∙ plain_views theirs p0 z m word us ∙ ap (λ zs. in_views zs p0 z m word us) (sym part.sessions) in
        subst (λ x. IsAnsweredAlike t (after_views by w x) (seen_as p z by asked m word)) (plain_views w.sessions w0 z m word vs)
        (subst (λ x. IsAnsweredAlike t (after_views by w r) (after_views by p x)) one (
          ap (λ items. Published by items) seen.items,
          record {
            capacity = seen.part.capacity;
            policy = seen.part.policy;
            moment = seen.part.moment;
            sessions = ap (ended_on by z.conn asked) seen.part.sessions ∙ sym (ended_own by z.conn asked r.1.sessions is);
            subscriptions = seen.part.subscriptions;
            routes =
                let q : List Item × World = in_views theirs p0 z m word (map plain vs) in
                least_spent q.1.policy account m.subject q.1.routes
                ∙ ap (spent account m.subject) seen.part.routes
                ∙ sym (ap (exporters_of t.accounts) (least_spent r.1.policy account m.subject r.1.routes)
                ∙ spends t.accounts account m.subject (exporters_on_least r.1.policy r.1.routes)
                ∙ ap (λ b. cond b (spent account m.subject (exporters_of t.accounts (exporters_on_least r.1.policy r.1.routes))) (exporters_of t.accounts (exporters_on_least r.1.policy r.1.routes))) of);
          },
        ))

    seen_others : (by : By) → t.connections z.conn ≡ false → t.accounts account ≡ false → IsPartOf t (seen_as w z by asked m word).1 p
    seen_others by out of =
        let w0 : World = record w { sessions = counted_on by z.conn asked w.sessions } in
        let vs : List ViewItem = views w.policy account m.subject (responses_on w.routes account m.subject) in
        let part0 : IsPartOf t w0 p = record {
          capacity = part.capacity;
          policy = part.policy;
          moment = part.moment;
          sessions = part.sessions ∙ sym (counted_others by z.conn asked w.sessions out);
          subscriptions = part.subscriptions;
          routes = part.routes;
        } in
        let stayed : HasStayed t (in_views w.sessions w0 z m word vs).1 p =
        views_others t w.sessions z word w0 p part0 apart.subscriptions apart.standing m vs (views_within w apart.closed apart.routes account m.subject false of) in
        let r : List Item × World = in_views w.sessions w0 z m word vs in
        record {
          capacity = stayed.part.capacity;
          policy = stayed.part.policy;
          moment = stayed.part.moment;
          sessions = stayed.part.sessions ∙ sym (ended_others by z.conn asked r.1.sessions out);
          subscriptions = stayed.part.subscriptions;
          routes =
              stayed.part.routes
              ∙ sym (ap (exporters_of t.accounts) (least_spent r.1.policy account m.subject r.1.routes)
              ∙ spends t.accounts account m.subject (exporters_on_least r.1.policy r.1.routes)
              ∙ ap (λ b. cond b (spent account m.subject (exporters_of t.accounts (exporters_on_least r.1.policy r.1.routes))) (exporters_of t.accounts (exporters_on_least r.1.policy r.1.routes))) of);
        }

  -- or it isn't sent on
  module _ (w p : World) (part : IsPartOf t w p) (apart : AreApart t w) (z : Session) (m : Message) (word : ℕ) where
    nowhere_own : (by : By) (item : Item) → t.connections z.conn ≡ true → IsAnsweredAlike t (seen_nowhere w z by m.subject item) (seen_nowhere p z by m.subject item)
    nowhere_own by item is =
        let counted : List Session = counted_on by z.conn m.subject w.sessions in (
          refl,
          record {
            capacity = part.capacity;
            policy = part.policy;
            moment = part.moment;
            sessions = ap (λ zs. ended_on by z.conn m.subject (counted_on by z.conn m.subject zs)) part.sessions
                ∙ sym (ended_own by z.conn m.subject counted is ∙ ap (ended_on by z.conn m.subject) (counted_own by z.conn m.subject w.sessions is));
            subscriptions = part.subscriptions;
            routes = part.routes;
          },
        )

    nowhere_others : (by : By) (item : Item) → t.connections z.conn ≡ false → IsPartOf t (seen_nowhere w z by m.subject item).1 p
    nowhere_others by item out = record {
      capacity = part.capacity;
      policy = part.policy;
      moment = part.moment;
      sessions = part.sessions ∙ sym (ended_others by z.conn m.subject (counted_on by z.conn m.subject w.sessions) out ∙ counted_others by z.conn m.subject w.sessions out);
      subscriptions = part.subscriptions;
      routes = part.routes;
    }

    mapped_own : (by : By) (mapped : Mapped) → t.connections z.conn ≡ true → t.accounts z.user.account ≡ true → IsAnsweredAlike t (mapped_to w z by m word mapped) (mapped_to p z by m word mapped)
    mapped_own by Same is of = seen_own w p part apart z m.subject m word by is of
    mapped_own by (To s) is of = seen_own w p part apart z m.subject (under_subject s m) word by is of
    mapped_own by Unmapped is of = nowhere_own by UnmappedItem is
    mapped_own by (TooLong index) is of = nowhere_own by (MappedTooLong index) is

    mapped_others : (by : By) (mapped : Mapped) → t.connections z.conn ≡ false → t.accounts z.user.account ≡ false → IsPartOf t (mapped_to w z by m word mapped).1 p
    mapped_others by Same out of = seen_others w p part apart z m.subject m word by out of
    mapped_others by (To s) out of = seen_others w p part apart z m.subject (under_subject s m) word by out of
    mapped_others by Unmapped out of = nowhere_others by UnmappedItem out
    mapped_others by (TooLong index) out of = nowhere_others by (MappedTooLong index) out

    pub published_own : t.connections z.conn ≡ true → t.accounts z.user.account ≡ true → (v : Verdict) → IsAnsweredAlike t (published w z m word v) (published p z m word v)
    published_own is of (DeniedBy i) = (refl, part)
    published_own is of NoAllow = (refl, part)
    published_own is of (NoQueueAllow i) = (refl, part)
    published_own is of (Allowed by) = mapped_own by (mapped_by z.user.mappings m.subject word) is of

    pub published_others : t.connections z.conn ≡ false → t.accounts z.user.account ≡ false → (v : Verdict) → IsPartOf t (published w z m word v).1 p
    published_others out of (DeniedBy i) = part
    published_others out of NoAllow = part
    published_others out of (NoQueueAllow i) = part
    published_others out of (Allowed by) = mapped_others by (mapped_by z.user.mappings m.subject word) out of
