-- A message that is published.
use Rattle.std.proofs.Common.{◌≡◌, ◌∙◌, ◌==◌, ◌∷◌, inl, inr, ℕ, Bool, true, false, cond, List, [], Option, Some, None, Result, Ok, map, ap, sym, refl, subst}
use Rattle.std.specs.Prelude.{IfSome, Err}
use Rattle.std.specs.Option.{unwrap_or}
use Rattle.subjects.specs.Subject.{Token}
use Rattle.permissions.specs.Verdicts.{publish_verdict, IsJustifiedPublish}
use Rattle.permissions.specs.declared.verdict.By.{By}
use Rattle.permissions.specs.declared.verdict.By.TheVariants.{All as AllowsAll, Index, Grant}
use Rattle.permissions.specs.declared.verdict.Verdict.{Verdict}
use Rattle.permissions.specs.declared.verdict.Verdict.TheVariants.{Allowed}
use Rattle.events.specs.Messages.{Message}
use Rattle.events.specs.declared.answer.Addressed.{Addressed}
use Rattle.events.specs.declared.answer.Item.{Item}
use Rattle.events.specs.declared.answer.Outcome.{Outcome}
use Rattle.events.specs.declared.answer.Outcome.TheVariants.{Published}
use Rattle.policy_ready.specs.imports.Across.{views}
use Rattle.policy_ready.specs.declared.imports.view.ViewItem.{ViewItem}
use Rattle.world_sessions.specs.deliveries.Sessions.{session_of, with_session}
use Rattle.world_sessions.specs.deliveries.Delivered.{delivered, room_in}
use Rattle.world_sessions.specs.deliveries.Planned.{rooms_of, planned}
use Rattle.world_sessions.specs.deliveries.Replying.{noted_for, responding}
use Rattle.world_sessions.specs.declared.deliveries.session.Session.{Session}
use Rattle.world_sessions.proofs.deliveries.Plans.{planned-delivered}
use Rattle.world_subscriptions.specs.Limit.{unended}
use Rattle.world_subscriptions.specs.Counting.{entered_ids, in_turn}
use Rattle.world_subscriptions.specs.Kept.{Apart}
use Rattle.world_routing.specs.World.{World}
use Rattle.world_routing.specs.Granting.{verdict_on, counted_on, ended_on}
use Rattle.service_exporter.specs.Routes.{Exporter}
use Rattle.service_routes.specs.Routes.{Name, spent}
use Rattle.world_views.specs.Changing.{changed_by, opened_each, AreNoted}
use Rattle.world_routing.specs.Routing.{in_views, under_subject}
use Rattle.world_views.specs.Requests.{responses_on}
use Rattle.world_routing.specs.Handing.{met, is_of_delivery, of_deliveries, answered_by, handed_over, carried}
use Rattle.world_views.specs.Viewing.{Tables, Publication, publication, Addressing, addressing, addressed_after, reports_after, with_reports, reports_in, routes_after, AreNotedIn}
use Rattle.world_views.specs.declared.across.Told.{Told}
use Rattle.world_views.specs.declared.viewing.Report.{Report}
use Rattle.world_routing.proofs.Together.{so_far, items_after, views_are, told_are, plain_is, entered_of}
use Rattle.world_views.proofs.addressing.Left.{AllAgree, none_disagree}
use Rattle.world_routing.specs.Publishing.{seen_as, seen_nowhere, mapped_to, published, in_session, published_by, tables_of, IsElsewhere, IsPlanOf, IsPlanned, IsToldPlan}
use Rattle.world_routing.specs.declared.planning.Elsewhere.{Elsewhere}
use Rattle.world_routing.specs.declared.planning.Elsewhere.TheVariants.{Under, Nowhere}
use Rattle.account_mappings.specs.Drawing.{SourceMap, is_route, mapped_by, mapped_from}
use Rattle.account_mappings.specs.declared.drawing.Mapped.{Mapped}
use Rattle.account_mappings.specs.declared.drawing.Mapped.TheVariants.{Same, To, Unmapped, TooLong}
use Rattle.base.specs.declared.no_memory.NoMemory.{NoMemory}
use Rattle.events.specs.declared.refusal.HubRefusal.{HubRefusal}
use Rattle.world_routing.specs.declared.granted_response.GrantedResponse.{GrantedResponse}
use Rattle.world_routing.specs.declared.planning.Plan.{Plan}
use Rattle.world_routing.specs.declared.planning.Plan.TheVariants.{ToNobody, ToSome}
use Rattle.world_routing.proofs.Views.{sent}

-- ---- an answer that is counted

-- an answer takes no room
same_rooms : (s : List Token) (conn other : ℕ) (zs : List Session) → rooms_of (with_session (responding s) conn zs) other ≡ rooms_of zs other
same_rooms s conn other [] = refl
same_rooms s conn other (z ∷ zs) = here (z.conn == conn) (same_rooms s conn other zs)
  where
    own : (b : Bool) → room_in (cond b (Some (responding s z)) (session_of zs other)) ≡ room_in (cond b (Some z) (session_of zs other))
    own true = refl
    own false = refl

    later : (b : Bool) → rooms_of (with_session (responding s) conn zs) other ≡ rooms_of zs other →
        room_in (cond b (Some z) (session_of (with_session (responding s) conn zs) other)) ≡ room_in (cond b (Some z) (session_of zs other))
    later true e = refl
    later false e = e

    here : (b : Bool) → rooms_of (with_session (responding s) conn zs) other ≡ rooms_of zs other →
        rooms_of (cond b (responding s z ∷ zs) (z ∷ with_session (responding s) conn zs)) other ≡ rooms_of (z ∷ zs) other
    here true e = own (z.conn == other)
    here false e = later (z.conn == other) e

-- so deliveries meet the same, whether it is counted before or not
pub same_met : (by : By) (conn : ℕ) (s : List Token) (now : ℕ) (all : List Addressed) (zs : List Session) → (delivered now all (counted_on by conn s zs)).1 ≡ (delivered now all zs).1
same_met AllowsAll conn s now all zs = refl
same_met (Index i) conn s now all zs = refl
same_met Grant conn s now all zs =
    sym (planned-delivered now all (with_session (responding s) conn zs))
    ∙ ap (planned all) (λ i other. same_rooms s conn other zs i)
    ∙ planned-delivered now all zs

-- what is handed over of a message that is published
same_handed : (by : By) (conn : ℕ) (m : Message) (now : ℕ) (all : List Addressed) (zs : List Session) →
    ended_on by conn m.subject (delivered now all (counted_on by conn m.subject zs)).0 ≡ handed_over now (answered_by by conn m) all zs
same_handed AllowsAll conn m now all zs = refl
same_handed (Index i) conn m now all zs = refl
same_handed Grant conn m now all zs = refl

-- ---- what a publish comes to

-- a message comes to the deliveries of all its views in one list, handed over and counted once, and to what they
-- meet, with the rows that are reported between; and response routes open or end by it
pub seen_is : (w : World) (z : Session) (m : Message) (word : ℕ) (by : By) (asked : Message) (a : Addressing) (vs : List ViewItem) (all : List Addressed) (reports : List Report) (items : List Item) →
    Apart w.subscriptions → unended w.subscriptions ≡ w.subscriptions →
    views w.policy z.user.account m.subject (responses_on w.routes z.user.account m.subject) ≡ vs →
    a ≡ addressed_after (tables_of w) (publication z m word) (addressing [] []) vs →
    all ≡ map (noted_for w.sessions) a.deliveries →
    reports ≡ reports_after (tables_of w) (publication z m word) (addressing [] []) vs → items ≡ with_reports 0 (met w all) reports →
    (seen_as w z by asked.subject m word
    ≡ (Published by items, record (carried w (answered_by by z.conn asked) all items) { routes = spent z.user.account m.subject (opened_each a.openings w.routes) }))
    × (of_deliveries items ≡ met w all)
seen_is w z m word by asked a vs all reports items apart going seen_are addressed noted_are rows told =
    let zs : List Session = counted_on by z.conn asked.subject w.sessions in
    let counting : World = record w { sessions = zs } in
    let p : Publication = publication z m word in
    let after : Addressing = addressed_after (tables_of w) p (addressing [] []) vs in
    let same : (all : List Addressed) → met counting all ≡ met w all = λ all. same_met by z.conn asked.subject w.moment all w.sessions in
    let agree : AllAgree w.subscriptions [] = none_disagree w.subscriptions in
    let outcome : List Item × World → Outcome × World = λ x.
    (Published by x.0, record x.1 { sessions = ended_on by z.conn asked.subject x.1.sessions; routes = spent z.user.account m.subject x.1.routes }) in
    let by_items : List Item → Outcome × World = λ is. outcome (is, so_far w.sessions counting p same apart going after) in
    let by_after : Addressing → Outcome × World = λ x. outcome (items, so_far w.sessions counting p same apart going x) in
    let by_all : List Addressed → Outcome × World = λ ds. outcome (items, record (sent counting ds) { routes = opened_each a.openings w.routes }) in
    let routes : List (Name × Exporter) = spent z.user.account m.subject (opened_each a.openings w.routes) in
    let by_ids : List ℕ → Outcome × World = λ ids.
    (Published by items, record w { sessions = ended_on by z.conn asked.subject (delivered w.moment all zs).0; subscriptions = in_turn ids w.subscriptions; routes = routes }) in
    let by_sessions : List Session → Outcome × World = λ ys.
    (Published by items, record w { sessions = ys; subscriptions = in_turn (entered_ids all items) w.subscriptions; routes = routes }) in
    let all_is : map (noted_for w.sessions) after.deliveries ≡ all = ap (λ (x : Addressing). map (noted_for w.sessions) x.deliveries) (sym addressed) ∙ sym noted_are in
    let met_is : met counting (map (noted_for w.sessions) after.deliveries) ≡ met w all = ap (met counting) all_is ∙ same all in
    let items_are : items_after w.sessions counting p same apart going (addressing [] []) vs ≡ items =
    told_are w.sessions counting p same apart going vs
    ∙ ap (λ (is : List Item). with_reports 0 is (reports_after (tables_of w) p (addressing [] []) vs)) met_is
    ∙ ap (with_reports 0 (met w all)) (sym rows)
    ∙ sym told in
    let plain : of_deliveries items ≡ met w all =
    ap of_deliveries (sym items_are) ∙ plain_is w.sessions counting p same apart going vs ∙ met_is in
    let ids : entered_ids all (met counting all) ≡ entered_ids all items = ap (entered_ids all) (same all ∙ sym plain) ∙ entered_of all items in (
      ap (λ (vs : List ViewItem). outcome (in_views w.sessions counting z m word vs)) seen_are
          ∙ ap outcome (views_are w.sessions counting p same apart going (addressing [] []) vs agree)
          ∙ ap by_items items_are
          ∙ ap by_after (sym addressed)
          ∙ ap by_all (sym noted_are)
          ∙ ap by_ids ids
          ∙ ap by_sessions (same_handed by z.conn asked w.moment all w.sessions),
      plain,
    )

-- a publish of a session that is allowed
by_verdict : (w : World) (o : Option Session) (z : Session) (m : Message) (word : ℕ) (s : List Token) (by : By) →
    Some z ≡ o → s ≡ m.subject → Allowed by ≡ verdict_on w.moment z s →
    in_session o (λ z. published w z m word (verdict_on w.moment z m.subject)) ≡ Ok (mapped_to w z by m word (mapped_by z.user.mappings m.subject word))
by_verdict w o z m word s by is same which =
    ap (λ (x : Option Session). in_session x (λ z. published w z m word (verdict_on w.moment z m.subject))) (sym is)
    ∙ ap (λ (x : Verdict). Ok (published w z m word x)) (sym (which ∙ ap (verdict_on w.moment z) same))

-- a message that goes elsewhere than under its own subject
abbrev pub diverted_to : World → Session → By → Message → ℕ → Elsewhere → Outcome × World
diverted_to w z by m word (Under s) = seen_as w z by m.subject (under_subject s m) word
diverted_to w z by m word (Nowhere item) = seen_nowhere w z by m.subject item

-- a message goes elsewhere as it is mapped, or stays under its own subject
stays_at : (w : World) (z : Session) (by : By) (m : Message) (word : ℕ) (mapped : Mapped) → IsElsewhere mapped (Ok None) → mapped_to w z by m word mapped ≡ seen_as w z by m.subject m word
stays_at w z by m word Same is = refl
stays_at w z by m word (To s) is = absurd (cc)
stays_at w z by m word Unmapped is = absurd (cc)
stays_at w z by m word (TooLong index) is = absurd (cc)

abbrev elsewhere_in : Elsewhere → Result (Option Elsewhere) NoMemory → Elsewhere
elsewhere_in e (Ok found) = unwrap_or found e
elsewhere_in e (Err _) = e

goes_to : (w : World) (z : Session) (by : By) (m : Message) (word : ℕ) (mapped : Mapped) (e : Elsewhere) → IsElsewhere mapped (Ok (Some e)) → mapped_to w z by m word mapped ≡ diverted_to w z by m word e
goes_to w z by m word Same e is = absurd (cc)
goes_to w z by m word (To s) e is = ap (λ (x : Option Elsewhere). diverted_to w z by m word (unwrap_or x e)) (sym is)
goes_to w z by m word Unmapped e is = ap (λ (x : Result (Option Elsewhere) NoMemory). diverted_to w z by m word (elsewhere_in e x)) (sym is)
goes_to w z by m word (TooLong index) e is = ap (λ (x : Result (Option Elsewhere) NoMemory). diverted_to w z by m word (elsewhere_in e x)) (sym is)

-- its item, where it goes nowhere, is of no delivery
abbrev pub IsPlain : Elsewhere → Type 0
IsPlain (Under s) = Unit {0}
IsPlain (Nowhere item) = is_of_delivery item ≡ false

pub plain_elsewhere : (mapped : Mapped) (e : Elsewhere) → IsElsewhere mapped (Ok (Some e)) → IsPlain e
plain_elsewhere Same e is = absurd (cc)
plain_elsewhere (To s) e is = subst IsPlain (ap (λ (x : Option Elsewhere). unwrap_or x e) (sym is)) tt
plain_elsewhere Unmapped e is = subst IsPlain (ap (elsewhere_in e) (sym is)) refl
plain_elsewhere (TooLong index) e is = subst IsPlain (ap (elsewhere_in e) (sym is)) refl

-- without mappings each stays
mapped_none : (s : List Token) (word : ℕ) → mapped_by [] s word ≡ Same
mapped_none s word = here (is_route s)
  where
    here : (b : Bool) → mapped_from (cond b None None) s word ≡ Same
    here true = refl
    here false = refl

-- what is planned for a session that is found, is planned for whatever comes to the same of it
module _ (conn : ℕ) (z : Session) (w : World) (found : Some z ≡ session_of w.sessions conn) (plan : Result Plan HubRefusal) where
  pub same_come : (f g : Session → Outcome × World) → f z ≡ g z →
      IsPlanned w (in_session (session_of w.sessions conn) f) plan → IsPlanned w (in_session (session_of w.sessions conn) g) plan
  same_come f g to =
      subst (λ (r : Result (Outcome × World) HubRefusal). IsPlanned w r plan)
      (ap (λ (o : Option Session). in_session o f) (sym found) ∙ ap (λ (r : Outcome × World). Ok r) to ∙ ap (λ (o : Option Session). in_session o g) found)

  module _ (by : By) (m : Message) (word : ℕ) where
    abbrev come_mapped : Session → Outcome × World
    come_mapped z = mapped_to w z by m word (mapped_by z.user.mappings m.subject word)

    pub planned_own : IsElsewhere (mapped_by z.user.mappings m.subject word) (Ok None) →
        IsPlanned w (in_session (session_of w.sessions conn) (λ z. seen_as w z by m.subject m word)) plan → IsPlanned w (in_session (session_of w.sessions conn) come_mapped) plan
    planned_own stays = same_come (λ z. seen_as w z by m.subject m word) come_mapped (sym (stays_at w z by m word (mapped_by z.user.mappings m.subject word) stays))

    pub planned_elsewhere : (e : Elsewhere) → IsElsewhere (mapped_by z.user.mappings m.subject word) (Ok (Some e)) →
        IsPlanned w (in_session (session_of w.sessions conn) (λ z. diverted_to w z by m word e)) plan → IsPlanned w (in_session (session_of w.sessions conn) come_mapped) plan
    planned_elsewhere e goes = same_come (λ z. diverted_to w z by m word e) come_mapped (sym (goes_to w z by m word (mapped_by z.user.mappings m.subject word) e goes))

    pub planned_unmapped : z.user.mappings ≡ [] →
        IsPlanned w (in_session (session_of w.sessions conn) (λ z. seen_as w z by m.subject m word)) plan → IsPlanned w (in_session (session_of w.sessions conn) come_mapped) plan
    planned_unmapped none =
        same_come (λ z. seen_as w z by m.subject m word) come_mapped
        (sym (ap (λ (maps : List SourceMap). mapped_to w z by m word (mapped_by maps m.subject word)) none ∙ ap (mapped_to w z by m word) (mapped_none m.subject word)))

    -- and for the publish, where the verdict allows it
    pub planned_publish : (s : List Token) → s ≡ m.subject → Allowed by ≡ verdict_on w.moment z s →
        IsPlanned w (in_session (session_of w.sessions conn) come_mapped) plan → IsPlanned w (published_by w conn m word) plan
    planned_publish s same verdict =
        subst (λ (r : Result (Outcome × World) HubRefusal). IsPlanned w r plan)
        (ap (λ (o : Option Session). in_session o come_mapped) (sym found) ∙ sym (by_verdict w (session_of w.sessions conn) z m word s by found same verdict))

-- the verdict on a publish has its reason, by whatever name its subject goes
pub publish_reason : (o : Option Session) (z : Session) (s t : List Token) (v : Verdict) → Some z ≡ o → s ≡ t → v ≡ publish_verdict z.user.rules s →
    IsJustifiedPublish s z.user.rules.publish v → IfSome o (λ (z : Session). IsJustifiedPublish t z.user.rules.publish (publish_verdict z.user.rules t))
publish_reason o z s t v is same which h =
    let P : Option Session → Type 0 = λ o. IfSome o (λ (z : Session). IsJustifiedPublish t z.user.rules.publish (publish_verdict z.user.rules t)) in
    let Q : List Token → Type 0 = λ t. IsJustifiedPublish t z.user.rules.publish (publish_verdict z.user.rules t) in
    let R : Verdict → Type 0 = λ x. IsJustifiedPublish s z.user.rules.publish x in
    subst P is (subst Q same (subst R which h))

-- ---- what is planned

-- a message, as it is sent on, that is addressed in all its views under these tables
module _ (t : Tables) (conn : ℕ) (m : Message) (word : ℕ) (z : Session) (asked : Message) (is : Some z ≡ session_of t.sessions conn)
    (by : By) (apart : Apart t.subscriptions) (going : unended t.subscriptions ≡ t.subscriptions) where
  abbrev p : Publication
  p = publication z m word

  abbrev vs : List ViewItem
  vs = views t.policy z.user.account m.subject (responses_on t.routes z.user.account m.subject)

  abbrev after : Addressing
  after = addressed_after t p (addressing [] []) vs

  abbrev come_of : World → Result (Outcome × World) HubRefusal
  come_of w = in_session (session_of w.sessions conn) (λ z. seen_as w z by asked.subject m word)

  abbrev changed_to : List (Name × Exporter)
  changed_to = spent z.user.account m.subject (opened_each after.openings t.routes)

  -- its outcome and the world after it
  abbrev IsCarriedOut : World → Option GrantedResponse → List Addressed → List Item → Type 0
  IsCarriedOut w answered all items =
      (come_of w ≡ Ok (Published by items, record (carried w answered all items) { routes = changed_to })) × (of_deliveries items ≡ met w all)

  allowed_of : (w : World) → tables_of w ≡ t → (answered : Option GrantedResponse) (all : List Addressed) (reports : List Report) (items : List Item) → answered ≡ answered_by by z.conn asked →
      all ≡ map (noted_for t.sessions) after.deliveries → reports ≡ reports_after t p (addressing [] []) vs → items ≡ with_reports 0 (met w all) reports →
      IsCarriedOut w answered all items
  allowed_of w of answered all reports items noted addressed rows told = subst P of own is apart going addressed rows
    where
      in_tables : Tables → List ViewItem
      in_tables u = views u.policy z.user.account m.subject (responses_on u.routes z.user.account m.subject)

      P : Tables → Type 0
      P u = Some z ≡ session_of u.sessions conn → Apart u.subscriptions → unended u.subscriptions ≡ u.subscriptions →
          all ≡ map (noted_for u.sessions) (addressed_after u p (addressing [] []) (in_tables u)).deliveries →
          reports ≡ reports_after u p (addressing [] []) (in_tables u) →
          (come_of w ≡ Ok (
            Published by items,
            record (carried w answered all items) {
              routes = spent z.user.account m.subject
                  (opened_each (addressed_after u p (addressing [] []) (in_tables u)).openings u.routes);
            },
          ))
          × (of_deliveries items ≡ met w all)

      own : P (tables_of w)
      own found apart going addressed rows =
          let a : Addressing = addressed_after (tables_of w) p (addressing [] []) (in_tables (tables_of w)) in
          let made = seen_is w z m word by asked a (in_tables (tables_of w)) all reports items apart going refl refl addressed rows told in (
            ap (λ (o : Option Session). in_session o (λ z. seen_as w z by asked.subject m word)) (sym found)
                ∙ ap (λ (r : Outcome × World). Ok r) made.0
                ∙ ap (λ (x : Option GrantedResponse). Ok (Published by items, record (carried w x all items) { routes = spent z.user.account m.subject (opened_each a.openings w.routes) })) (sym noted),
            made.1,
          )

  -- what is planned where more is told, or not
  module _ (answered : Option GrantedResponse) (noted : answered ≡ answered_by by z.conn asked) (told : Option Told) (rows : reports_in told ≡ reports_after t p (addressing [] []) vs)
      (routes : routes_after told t.routes ≡ changed_to) (opened : AreNotedIn t.now told) (w : World) (of : tables_of w ≡ t) where
    pub planned_by : (all : List Addressed) (plain : List Item) (plan : Plan) → all ≡ map (noted_for t.sessions) after.deliveries → ((n : ℕ) → plain ≡ (delivered n all t.sessions).1) →
        IsPlanOf by plain (record { all = all; answered = answered }) told plan → IsPlanned w (come_of w) (Ok plan)
    planned_by all plain plan addressed meets = here told rows routes opened
      where
        plain_is_met : plain ≡ met w all
        plain_is_met = meets w.moment ∙ ap (λ (x : Tables). (delivered w.moment all x.sessions).1) (sym of)

        moment_is : w.moment ≡ t.now
        moment_is = ap (λ (x : Tables). x.now) of

        routes_are : w.routes ≡ t.routes
        routes_are = ap (λ (x : Tables). x.routes) of

        here : (o : Option Told) → reports_in o ≡ reports_after t p (addressing [] []) vs → routes_after o t.routes ≡ changed_to → AreNotedIn t.now o →
            IsPlanOf by plain (record { all = all; answered = answered }) o plan → IsPlanned w (come_of w) (Ok plan)
        here None rows routes opened is_plan =
            let made = allowed_of w of answered all [] plain noted addressed rows plain_is_met in
            subst (λ (x : Plan). IsPlanned w (come_of w) (Ok x)) (sym is_plan) (
              made.0 ∙ ap (λ (rs : List (Name × Exporter)). Ok (Published by plain, record (carried w answered all plain) { routes = rs })) (sym routes ∙ sym routes_are),
              made.1,
            )
        here (Some o) rows routes opened is_plan =
            let items : List Item = with_reports 0 plain o.reports.items in
            let made = allowed_of w of answered all o.reports.items items noted addressed rows (ap (λ (is : List Item). with_reports 0 is o.reports.items) plain_is_met) in
            subst (λ (x : Plan). IsPlanned w (come_of w) (Ok x)) (sym is_plan) (
              made.0
                  ∙ ap (λ (rs : List (Name × Exporter)). Ok (Published by items, record (carried w answered all items) { routes = rs })) (sym routes ∙ ap (changed_by o.routes) (sym routes_are)),
              made.1,
              subst (λ n. AreNoted n o.routes) (sym moment_is) opened,
            )

    -- where nobody is there to be sent it, nothing to be counted and nothing to be told, nothing changes
    pub planned_nobody : (all : List Addressed) → all ≡ map (noted_for t.sessions) after.deliveries → all ≡ [] → told ≡ None → answered ≡ None →
        IsPlanned w (come_of w) (Ok (ToNobody by))
    planned_nobody all addressed empty quiet none =
        let nothing : reports_in told ≡ [] = ap reports_in quiet in
        let nobody : [] ≡ with_reports 0 (met w all) (reports_in told) = sym (ap (λ (ds : List Addressed). with_reports 0 (met w ds) (reports_in told)) empty ∙ ap (with_reports 0 []) nothing) in
        let same_routes : changed_to ≡ w.routes = sym routes ∙ ap (λ (o : Option Told). routes_after o t.routes) quiet ∙ sym (ap (λ (x : Tables). x.routes) of) in
        (allowed_of w of answered all (reports_in told) [] noted addressed rows nobody).0
        ∙ ap (λ (rs : List (Name × Exporter)). Ok (Published by [], record (carried w answered all []) { routes = rs })) same_routes
        ∙ ap (λ (ds : List Addressed). Ok (Published by [], carried w answered ds [])) empty
        ∙ ap (λ (x : Option GrantedResponse). Ok (Published by [], carried w x [] [])) none

-- what is planned by what is told comes to the same
pub planned_told : (t : Tables) (conn : ℕ) (m : Message) (word : ℕ) (z : Session) (asked : Message) → Some z ≡ session_of t.sessions conn → (by : By) → Apart t.subscriptions →
    unended t.subscriptions ≡ t.subscriptions → (answered : Option GrantedResponse) → answered ≡ answered_by by z.conn asked → (told : Option Told) →
    reports_in told ≡ reports_after t (publication z m word) (addressing [] []) (views t.policy z.user.account m.subject (responses_on t.routes z.user.account m.subject)) →
    routes_after told t.routes ≡ spent z.user.account m.subject (opened_each (addressed_after t (publication z m word) (addressing [] []) (views t.policy z.user.account m.subject (responses_on t.routes z.user.account m.subject))).openings t.routes) →
    AreNotedIn t.now told → (all : List Addressed) →
    all ≡ (addressed_after t (publication z m word) (addressing [] []) (views t.policy z.user.account m.subject (responses_on t.routes z.user.account m.subject))).deliveries →
    (plan : Plan) → IsToldPlan t.sessions by answered told all plan → (w : World) → tables_of w ≡ t →
    IsPlanned w (in_session (session_of w.sessions conn) (λ z. seen_as w z by asked.subject m word)) (Ok plan)
planned_told t conn m word z asked is by apart going answered noted told rows routes opened all addressed plan planned w of = here planned
  where
    noting : List Addressed → List Addressed
    noting = map (noted_for t.sessions)

    here : IsToldPlan t.sessions by answered told all plan → IsPlanned w (in_session (session_of w.sessions conn) (λ z. seen_as w z by asked.subject m word)) (Ok plan)
    here (inl (nobody, empty, quiet, none)) =
        subst (λ (x : Plan). IsPlanned w (in_session (session_of w.sessions conn) (λ z. seen_as w z by asked.subject m word)) (Ok x)) (sym nobody)
        (planned_nobody t conn m word z asked is by apart going answered noted told rows routes opened w of (noting all) (ap noting addressed) (ap noting empty) quiet none)
    here (inr (plain, meets, of_plan)) =
        planned_by t conn m word z asked is by apart going answered noted told rows routes opened w of (noting all) plain plan (ap noting addressed) meets of_plan

-- a message that is seen nowhere has its item, and nothing is handed over
pub planned_nowhere : (conn : ℕ) (m : Message) (z : Session) (by : By) (item : Item) (answered : Option GrantedResponse) → is_of_delivery item ≡ false → answered ≡ answered_by by z.conn m →
    (w : World) → Some z ≡ session_of w.sessions conn → (plan : Plan) → plan ≡ ToSome by (item ∷ []) (record { all = []; answered = answered }) →
    IsPlanned w (in_session (session_of w.sessions conn) (λ z. seen_nowhere w z by m.subject item)) (Ok plan)
planned_nowhere conn m z by item answered plain noted w found plan is =
    let come : Result (Outcome × World) HubRefusal = in_session (session_of w.sessions conn) (λ z. seen_nowhere w z by m.subject item) in
    subst (λ (x : Plan). IsPlanned w come (Ok x)) (sym is) (
      ap (λ (o : Option Session). in_session o (λ z. seen_nowhere w z by m.subject item)) (sym found)
          ∙ ap (λ (zs : List Session). Ok (Published by (item ∷ []), record w { sessions = zs })) (same_handed by z.conn m w.moment [] w.sessions)
          ∙ ap (λ (x : Option GrantedResponse). Ok (Published by (item ∷ []), carried w x [] (item ∷ []))) (sym noted),
      ap (λ (b : Bool). cond b (item ∷ []) []) plain,
    )
