-- Whom the parts of a publish reach.
use Rattle.std.proofs.Common.{◌≡◌, ◌∙◌, ◌==◌, ◌&&◌, ◌++◌, ◌+◌, ◌⊎◌, inl, inr, ℕ, Bool, true, false, not, List, [], ◌∷◌, map, filter, length, get_or, Option, Some, None, ap, sym, refl, subst, arith}
use Rattle.std.proofs.Math.Path.{subst₂}
use Rattle.std.specs.Prelude.{All, Contains, IfSome, IsSomeAnd, is_some, max}
use Rattle.std.specs.Option.{option_map}
use Rattle.std.specs.Cmp.Lexicographic.{bytes_decides}
use Rattle.std.proofs.lemmas.Bool.{eqb-true}
use Rattle.std.proofs.lemmas.List.{length-map}
use Rattle.std.proofs.lemmas.List.Elements.{All-nil, All-cons, All-head, All-tail, All-map, All-take, All-filter, All-contains, All-contains_itself, filter_passes}
use Rattle.subjects.specs.Subject.{Token}
use Rattle.policy_doc.specs.declared.exports.document.Row.{Row}
use Rattle.policy_doc.specs.Document.{IsValidPolicy}
use Rattle.policy_ready.specs.declared.imports.view.ViewItem.{ViewItem}
use Rattle.policy_ready.specs.declared.imports.view.ViewItem.TheVariants.{At, TooLong as NotCrossed}
use Rattle.policy_ready.specs.declared.imports.view.Way.{Way}
use Rattle.policy_ready.specs.declared.imports.view.Way.TheVariants.{Own, Stream, Service, Response}
use Rattle.service_exporter.specs.service_subjects.Names.{route_subject}
use Rattle.service_exporter.specs.Limit.{is_full}
use Rattle.service_exporter.specs.Routes.{Exporter}
use Rattle.service_routes.specs.Routes.{exporter_of, pruned}
use Rattle.permissions.specs.declared.verdict.By.{By}
use Rattle.policy_ready.specs.declared.ready.User.{User}
use Rattle.events.specs.Messages.{Message}
use Rattle.events.specs.declared.event.Event.{Event}
use Rattle.events.specs.declared.event.Command.TheVariants.{Pub}
use Rattle.events.specs.declared.answer.Delivery.{Delivery}
use Rattle.events.specs.declared.answer.Entry.{Entry}
use Rattle.events.specs.declared.answer.Item.{Item}
use Rattle.events.specs.declared.answer.Item.TheVariants.{Entered, Full, RouteFull, MapTooLong, Unmapped as UnmappedItem, MappedTooLong}
use Rattle.account_mappings.specs.Drawing.{mapped_by}
use Rattle.account_mappings.specs.declared.drawing.Mapped.{Mapped}
use Rattle.account_mappings.specs.declared.drawing.Mapped.TheVariants.{Same, To, Unmapped, TooLong}
use Rattle.events.specs.declared.answer.Outcome.TheVariants.{Published}
use Rattle.world_sessions.specs.deliveries.Sessions.{session_of}
use Rattle.world_sessions.specs.declared.deliveries.session.Session.{Session}
use Rattle.world_subscriptions.specs.Subscription.{Subscription}
use Rattle.world_subscriptions.specs.groups.Served.{members}
use Rattle.world.specs.World.{World}
use Rattle.world.specs.Routing.{View, view_of, view_with, under_subject}
use Rattle.world.specs.Transition.{sent_on}
use Rattle.hub.specs.Sound.{IsSound, user_at, is_below, is_to_receive}
use Rattle.hub.specs.History.{State}
use Rattle.hub.specs.Guarantee.{IsRouted, IsEffect, IsMapped, IsSent, IsViewPart, IsGiven, IsGivenBy, IsGivenTo, IsRequest, IsRequestTo, ViewPart, told_by, routes_behind, Sending, eligible, has_some, is_plain, is_for, may_receive, item_names, names_of, received_more, receives, room_in, sendings_in, sendings, sent_to, delivery_of}
use Rattle.hub.proofs.Finds.{find-map, find-passes}
use Rattle.hub.proofs.Rows.{All-flat_map}
use Rattle.hub_laws.specs.routing.Seen.{Routes, views_by, IsReported, IsRequested, HasRouteReply, IsSeenAs, ComesBy}
use Rattle.hub_laws.specs.routing.Reach.{OfEachPublished, OfEachPublish, UnsentReachesNobody, AreNew, IsTold, live_routes, IsAdmitted, NamesAdmitted, IsDeliveryToAdmitted, NothingUnadmitted, HasNoRoute, NobodyLeftOut, IsOfAccount, IsToOne, IsDeliveryToOne, HasView, ReachesItsViews, AccountsApart, HasOneOfEachAt, HasOneOfEach, OneOfEachGroup}
use Rattle.hub_laws.proofs.routing.Lists.{front, back, from_some, each_split, All-in_map, Contains-head, Contains-filter, Contains-map, Contains-flat_map, Contains-split, IsSplit, split_at}
use Rattle.hub_laws.proofs.routing.Seen.{seen_by_ways, reported_by_rows}

-- what follows from what comes of each publish, sent on or not, holds of each publish
of_each_mapped : (Holds : World → World → ℕ → User → Option Message → List Item → Type 0) →
    ((w after : World) (by : By) (conn : ℕ) (m : Message) (word : ℕ) (u : User) (items : List Item) (mapped : Mapped) → IsMapped w after.moment by conn m word u.account items after mapped → Holds w after conn u (sent_on mapped m) items) →
    OfEachPublished Holds
of_each_mapped Holds follows s e a after routed conn m word by items asked answered =
    from_some _ _ (user_at s.world conn) (λ u _ sent. follows s.world after.world by conn m word u items (mapped_by u.mappings m.subject word) sent) effect.0
  where
    effect : IsEffect s.world after.world.moment (Pub conn m word) (Published by items) after.world
    effect =
        subst (λ now. IsEffect s.world now (Pub conn m word) (Published by items) after.world) (sym (ap (λ (w : World). w.moment) routed.others))
        (subst₂ (λ c o. IsEffect s.world (max s.world.moment e.now) c o after.world) asked answered routed.effect)

-- so does what follows from what is sent of each that is sent on
pub of_each : (Holds : World → World → ℕ → User → Message → List Item → Type 0) →
    ((w after : World) (by : By) (conn : ℕ) (asked : List Token) (m : Message) (word : ℕ) (u : User) (items : List Item) → IsSent w after.moment by conn asked m word u.account items after → Holds w after conn u m items) → OfEachPublish Holds
of_each Holds follows = of_each_mapped (λ w after conn u sent items. IfSome sent (λ (m : Message). Holds w after conn u m items)) by_mapping
  where
    by_mapping : (w after : World) (by : By) (conn : ℕ) (m : Message) (word : ℕ) (u : User) (items : List Item) (mapped : Mapped) → IsMapped w after.moment by conn m word u.account items after mapped →
        IfSome (sent_on mapped m) (λ (m : Message). Holds w after conn u m items)
    by_mapping w after by conn m word u items Same sent = follows w after by conn m.subject m word u items sent
    by_mapping w after by conn m word u items (To s) sent = follows w after by conn m.subject (under_subject s m) word u items sent
    by_mapping w after by conn m word u items Unmapped sent = tt
    by_mapping w after by conn m word u items (TooLong index) sent = tt

-- what holds of each publish, as far as it follows in a world as every hub keeps it
pub weaker : (Holds Follows : World → World → ℕ → User → Message → List Item → Type 0) →
    ((w after : World) (conn : ℕ) (u : User) (m : Message) (items : List Item) → IsSound w → Holds w after conn u m items → Follows w after conn u m items) → OfEachPublish Holds → OfEachPublish Follows
weaker Holds Follows follows each s e a after routed conn m word by items asked answered =
    from_some _ _ (user_at s.world conn) (λ u _ holds. if_sent u (sent_on (mapped_by u.mappings m.subject word) m) holds) (each s e a after routed conn m word by items asked answered)
  where
    if_sent : (u : User) (sent : Option Message) → IfSome sent (λ (m : Message). Holds s.world after.world conn u m items) → IfSome sent (λ (m : Message). Follows s.world after.world conn u m items)
    if_sent u None holds = tt
    if_sent u (Some m) holds = follows s.world after.world conn u m items routed.before holds

-- ---- the parts

-- an item that names a subscription
abbrev pub named : Subscription → Option (ℕ × List ℕ)
named sub = Some (names_of sub)

-- a subscription that may be sent the message, as it is seen there
abbrev pub IsAdmittedAs : World → Routes → ℕ → List ℕ → Message → List ℕ → List Token → Message → Subscription → Type 0
IsAdmittedAs w routes conn account m into local seen sub = (admitted : IsAdmitted w routes conn account m into local sub) × IsSeenAs admitted.seen.way local m seen

-- what a view gives is for such subscriptions, an item each; or it reports a row
abbrev IsGivenToAdmitted : World → Routes → ℕ → List ℕ → Message → List ℕ → List Token → ViewPart → Type 0
IsGivenToAdmitted w routes conn account m into local p =
    All (IsAdmittedAs w routes conn account m into local p.seen.message) p.subs × (map item_names p.items ≡ map named p.subs)

abbrev IsWithoutRoute : World → Routes → List ℕ → Message → ViewPart → Type 0
IsWithoutRoute w routes account m p = (row : Row) × IsRequested w.policy routes account m.subject row × (p.subs ≡ []) × (p.items ≡ RouteFull row ∷ [])

abbrev IsAdmittedIn : World → Routes → ℕ → List ℕ → Message → ViewPart → ViewItem → Type 0
IsAdmittedIn w routes conn account m p (At into local way) = IsGivenToAdmitted w routes conn account m into local p ⊎ IsWithoutRoute w routes account m p
IsAdmittedIn w routes conn account m p (NotCrossed row) = IsReported w.policy routes account m.subject row × (p.subs ≡ []) × (p.items ≡ MapTooLong row ∷ [])

abbrev IsAdmittedPart : World → Routes → ℕ → List ℕ → Message → ViewPart → Type 0
IsAdmittedPart w routes conn account m p = IsAdmittedIn w routes conn account m p p.view

-- a request has a route's subject for its reply, or none
none-for : (reply : Option (List Token)) → reply ≡ None → HasRouteReply reply reply
none-for reply is = subst (λ o. HasRouteReply o reply) (sym is) is

route-for : (published : Option (List Token)) (reply : List Token) (word number : ℕ) → published ≡ Some reply → HasRouteReply published (Some (route_subject word number))
route-for published reply word number is = subst (λ o. HasRouteReply o (Some (route_subject word number))) (sym is) (word, number, refl)

module _ (w : World) (now conn word : ℕ) (account : List ℕ) (m : Message) (before : List ViewPart) (p : ViewPart) where
  abbrev routes : Routes
  routes = pruned now w.routes

  -- those that a message goes to, as it is seen, may be sent it
  given_as : (into : List ℕ) (local : List Token) (way : Way) (seen : View) → Contains (views_by w.policy routes account m.subject) (At into local way) →
      p.seen ≡ seen → seen.account ≡ into → seen.message.subject ≡ local → IsSeenAs way local m seen.message → IsGivenTo w conn word before p → IsGivenToAdmitted w routes conn account m into local p
  given_as into local way seen has is of under how given = (
    subst (All (IsAdmittedAs w routes conn account m into local p.seen.message)) (sym given.served.some)
        (All-filter given.served.which (IsAdmittedAs w routes conn account m into local p.seen.message) (eligible w conn before p.seen) able),
    given.one_each,
  )
    where
      test : Subscription → Bool
      test sub = is_for w conn p.seen.account p.seen.message.subject sub && is_to_receive (received_more (told_by before) sub)

      may : (sub : Subscription) → is_for w conn p.seen.account p.seen.message.subject sub ≡ true → is_for w conn into local sub ≡ true
      may sub passes =
          subst (λ (t : List Token). is_for w conn into t sub ≡ true) (ap (λ (v : View). v.message.subject) is ∙ under)
          (subst (λ (a : List ℕ). is_for w conn a p.seen.message.subject sub ≡ true) (ap (λ (v : View). v.account) is ∙ of) passes)

      able : All (IsAdmittedAs w routes conn account m into local p.seen.message) (eligible w conn before p.seen)
      able k d below = (
        record {
          seen = record { way = way; view = has };
          stood = All-filter test (Contains w.subscriptions) w.subscriptions (All-contains_itself w.subscriptions) k d below;
          may = may (get_or (filter test w.subscriptions) k d) (front _ _ (filter_passes test w.subscriptions k d below));
        },
        subst (λ (v : View). IsSeenAs way local m v.message) (sym is) how,
      )

  request_is : (into : List ℕ) (local : List Token) (row : Row) (reply : Option (List Token)) → m.reply ≡ reply → Contains (views_by w.policy routes account m.subject) (At into local (Service row)) →
      IsRequest w now conn m word before p into local row reply → IsGivenToAdmitted w routes conn account m into local p ⊎ IsWithoutRoute w routes account m p
  request_is into local row None says has given = inl (given_as into local (Service row) (view_of into local m) has given.0 refl refl (refl, none-for m.reply says) given.2)
  request_is into local row (Some reply) says has given =
      here (has_some (eligible w conn before (view_of into local m))) (is_full 1 now (exporter_of into (routes_behind routes before))) given
    where
      here : (some full : Bool) → IsRequestTo some full w now conn m word before p into local row reply → IsGivenToAdmitted w routes conn account m into local p ⊎ IsWithoutRoute w routes account m p
      here false full given = inl (
        subst (All (IsAdmittedAs w routes conn account m into local p.seen.message)) (sym given.0) (All-nil (IsAdmittedAs w routes conn account m into local p.seen.message)),
        ap (map item_names) given.1 ∙ sym (ap (map named) given.0),
      )
      here true true given = inr (row, (into, local, has), given.0, given.1)
      here true false given =
          let number : ℕ = (exporter_of into (routes_behind routes before)).last + 1 in
          inl (given_as into local (Service row) (view_with into local (Some (route_subject word number)) m) has given.0 refl refl (refl, route-for m.reply reply word number says) given.2)

  part_is : (v : ViewItem) → Contains (views_by w.policy routes account m.subject) v → IsGiven w now conn m word before p v → IsAdmittedIn w routes conn account m p v
  part_is (At into local Own) has given = inl (given_as into local Own (view_of into local m) has given.0 refl refl (refl, refl) given.2)
  part_is (At into local (Stream row)) has given = inl (given_as into local (Stream row) (view_of into local m) has given.0 refl refl (refl, refl) given.2)
  part_is (At into local (Service row)) has given = request_is into local row m.reply refl has given
  part_is (At into local (Response row)) has given = inl (given_as into local (Response row) (view_with into local None m) has given.0 refl refl (refl, refl) given.2)
  part_is (NotCrossed row) has given = (has, given.0, given.1)

parts_are : (w : World) (now : ℕ) (by : By) (conn : ℕ) (asked : List Token) (m : Message) (word : ℕ) (account : List ℕ) (items : List Item) (after : World) → (sent : IsSent w now by conn asked m word account items after) →
    All (IsAdmittedPart w (pruned now w.routes) conn account m) sent.parts
parts_are w now by conn asked m word account items after sent k d below =
    let at = each_split Parted sent.parts (λ before p later at. (before, sent.each before p later at)) k d below in
    part_is w now conn word account m at.0 (get_or sent.parts k d) (get_or sent.parts k d).view (All-in_map (λ (p : ViewPart). p.view) sent.parts (views_by w.policy (pruned now w.routes) account m.subject) sent.in_views k d below) at.1
  where
    Parted : ViewPart → Type 0
    Parted p = (before : List ViewPart) × IsViewPart w now conn m word before p

-- ---- items

-- items that name subscriptions in order
names_each : (P : Subscription → Type 0) (items : List Item) (subs : List Subscription) → map item_names items ≡ map named subs → All P subs → All (λ item. (sub : Subscription) × P sub × (item_names item ≡ named sub)) items
names_each P [] subs e all = All-nil _
names_each P (i ∷ is) [] e all = absurd (cc)
names_each P (i ∷ is) (x ∷ xs) e all =
    let here : item_names i ≡ named x = cc in
    let rest : map item_names is ≡ map named xs = cc in
    All-cons (λ (item : Item). (sub : Subscription) × P sub × (item_names item ≡ named sub)) i is (x, All-head P x xs all, here)
    (names_each P is xs rest (All-tail P x xs all))

module _ (w : World) (routes : Routes) (conn : ℕ) (account : List ℕ) (m : Message) where
  -- what is told of an admitted subscription, or of a row that is reported
  abbrev pub IsItemOfAdmitted : Item → Type 0
  IsItemOfAdmitted item = IsTold (NamesAdmitted w routes conn account m) (IsReported w.policy routes account m.subject) (IsRequested w.policy routes account m.subject) item

  item_is : (into : List ℕ) (local : List Token) (item : Item) (sub : Subscription) → IsAdmitted w routes conn account m into local sub → item_names item ≡ named sub → IsItemOfAdmitted item
  item_is into local (Entered to sid) sub admitted names = let same : names_of sub ≡ (to, sid) = cc in (into, local, sub, admitted, same)
  item_is into local (Full to sid) sub admitted names = let same : names_of sub ≡ (to, sid) = cc in (into, local, sub, admitted, same)
  item_is into local (RouteFull row) sub admitted names = absurd (cc)
  item_is into local (MapTooLong row) sub admitted names = absurd (cc)
  item_is into local UnmappedItem sub admitted names = absurd (cc)
  item_is into local (MappedTooLong index) sub admitted names = absurd (cc)

  pub items_in : (p : ViewPart) (v : ViewItem) → IsAdmittedIn w routes conn account m p v → All IsItemOfAdmitted p.items
  items_in p (At into local way) (inl part) =
      (λ k d below. let is = names_each (IsAdmittedAs w routes conn account m into local p.seen.message) p.items p.subs part.1 part.0 k d below in item_is into local (get_or p.items k d) is.0 is.1.0 is.2)
  items_in p (At into local way) (inr full) =
      subst (All IsItemOfAdmitted) (sym full.3) (All-cons IsItemOfAdmitted (RouteFull full.0) [] full.1 (All-nil IsItemOfAdmitted))
  items_in p (NotCrossed row) part =
      subst (All IsItemOfAdmitted) (sym part.2) (All-cons IsItemOfAdmitted (MapTooLong row) [] part.0 (All-nil IsItemOfAdmitted))

  -- a message as it is seen, for a subscription that may be sent it there
  abbrev pub IsAdmittedSending : Sending → Type 0
  IsAdmittedSending s = (into : List ℕ) × (local : List Token) × IsAdmittedAs w routes conn account m into local s.message s.to

  no_sendings : (p : ViewPart) → p.subs ≡ [] → All IsAdmittedSending (sendings_in p)
  no_sendings p none =
      subst (λ (l : List Subscription). All IsAdmittedSending (map (λ (sub : Subscription). record { message = p.seen.message; to = sub }) l)) (sym none) (All-nil IsAdmittedSending)

  sendings_of : (p : ViewPart) (v : ViewItem) → IsAdmittedIn w routes conn account m p v → All IsAdmittedSending (sendings_in p)
  sendings_of p (At into local way) (inl part) =
      All-map IsAdmittedSending (λ (sub : Subscription). record { message = p.seen.message; to = sub }) p.subs (λ k d below. (into, local, part.0 k d below))
  sendings_of p (At into local way) (inr full) = no_sendings p full.2
  sendings_of p (NotCrossed row) part = no_sendings p part.1

  pub sendings_are : (parts : List ViewPart) → All (IsAdmittedPart w routes conn account m) parts → All IsAdmittedSending (sendings parts)
  sendings_are parts all =
      All-flat_map IsAdmittedSending sendings_in parts (λ k d below. let p = get_or parts k d in sendings_of p p.view (all k d below))

  delivery_is : (to : ℕ) (s : Sending) → IsAdmittedSending s → (s.to.conn == to) ≡ true → IsDeliveryToAdmitted w routes conn account m to (delivery_of s)
  delivery_is to s is here = (is.0, is.1, s.to, is.2.0, eqb-true s.to.conn to here, is.2.1, refl)

  pub deliveries_to : (to : ℕ) (ss : List Sending) → All IsAdmittedSending ss → All (IsDeliveryToAdmitted w routes conn account m to) (map delivery_of (sent_to to ss))
  deliveries_to to ss all =
      All-map (IsDeliveryToAdmitted w routes conn account m to) delivery_of (sent_to to ss)
      (λ k d below. delivery_is to _ (All-filter is_to IsAdmittedSending ss all k d below) (filter_passes is_to ss k d below))
    where
      is_to : Sending → Bool
      is_to s = s.to.conn == to

-- the sessions after a publish have what came in behind what they held
new_in : (P : ℕ → Delivery → Type 0) (now : ℕ) (by : By) (conn : ℕ) (asked : List Token) (ss : List Sending) (before after : List Session) → ((to : ℕ) → All (P to) (map delivery_of (sent_to to ss))) →
    after ≡ map (λ (z : Session). receives now by conn asked (map delivery_of (sent_to z.conn ss)) z) before → AreNew P before after
new_in P now by conn asked ss before after all is to = subst (λ o. IfSome o (Has (session_of before to))) (sym found) (here (session_of before to) refl)
  where
    received : Session → Session
    received z = receives now by conn asked (map delivery_of (sent_to z.conn ss)) z

    found : session_of after to ≡ option_map received (session_of before to)
    found = ap (λ zs. session_of zs to) is ∙ find-map (λ z. z.conn == to) received before (λ z. refl)

    Has : Option Session → Session → Type 0
    Has o z = IsSomeAnd o (λ (y : Session). (more : List Delivery) × (z.outbox.waiting ≡ y.outbox.waiting ++ more) × All (P to) more)

    here : (o : Option Session) → session_of before to ≡ o → IfSome (option_map received o) (Has o)
    here None at = tt
    here (Some y) at =
        let same : y.conn ≡ to = eqb-true y.conn to (find-passes (λ z. z.conn == to) before y at) in
        (_, refl, All-take (P to) (room_in (Some y)) _ (subst (λ n. All (P to) (map delivery_of (sent_to n ss))) (sym same) (all to)))

pub nothing_unadmitted : NothingUnadmitted
nothing_unadmitted = of_each _ (λ w after by conn asked m word u items sent.
    let routes : Routes = live_routes w after in
    let all = parts_are w after.moment by conn asked m word u.account items after sent in record {
      told = subst (All (IsItemOfAdmitted w routes conn u.account m)) (sym sent.items_are)
          (All-flat_map (IsItemOfAdmitted w routes conn u.account m) (λ (p : ViewPart). p.items) sent.parts
          (λ k d below. items_in w routes conn u.account m (get_or sent.parts k d) (get_or sent.parts k d).view (all k d below)));
      sent = new_in (IsDeliveryToAdmitted w routes conn u.account m) after.moment by conn asked (sendings sent.parts) w.sessions after.sessions
          (λ to. deliveries_to w routes conn u.account m to (sendings sent.parts) (sendings_are w routes conn u.account m sent.parts all))
          sent.delivered.outboxes;
    })

-- ---- nobody is left out

-- whom a view gives the message has an item
given_has : (w : World) (conn word : ℕ) (before : List ViewPart) (p : ViewPart) (sub : Subscription) → IsGivenTo w conn word before p →
    Contains w.subscriptions sub → is_for w conn p.seen.account p.seen.message.subject sub ≡ true → sub.queue ≡ None → sub.most ≡ None → Contains (map item_names p.items) (named sub)
given_has w conn word before p sub given stood may plain unlimited =
    subst (λ l. Contains l (named sub)) (sym given.one_each) (Contains-map named p.subs sub served)
  where
    more : Subscription → Subscription
    more = received_more (told_by before)

    test : Subscription → Bool
    test x = is_for w conn p.seen.account p.seen.message.subject x && is_to_receive (more x)

    passes : test sub ≡ true
    passes = ap (λ b. b && is_to_receive (more sub)) may ∙ ap (λ o. is_below o (more sub).received) unlimited

    able : Contains (filter is_plain (eligible w conn before p.seen)) sub
    able = Contains-filter is_plain (eligible w conn before p.seen) sub (Contains-filter test w.subscriptions sub stood passes) (ap (λ o. not (is_some o)) plain)

    served : Contains p.subs sub
    served = All-contains (Contains p.subs) (filter is_plain p.subs) sub (All-filter is_plain (Contains p.subs) p.subs (All-contains_itself p.subs)) (subst (λ l. Contains l sub) (sym given.served.plain) able)

-- or its row is reported
module _ (w : World) (now conn word : ℕ) (m : Message) (before : List ViewPart) (p : ViewPart) (sub : Subscription) (stood : Contains w.subscriptions sub) (plain : sub.queue ≡ None) (unlimited : sub.most ≡ None) where
  abbrev HasItem : Way → Type 0
  HasItem way = Contains (map item_names p.items) (named sub) ⊎ HasNoRoute way p.items

  has_item : (way : Way) (seen : View) → p.seen ≡ seen → is_for w conn seen.account seen.message.subject sub ≡ true → IsGivenTo w conn word before p → HasItem way
  has_item way seen is may given = inl (given_has w conn word before p sub given stood (subst (λ (x : View). is_for w conn x.account x.message.subject sub ≡ true) (sym is) may) plain unlimited)

  some-there : (subs : List Subscription) → Contains subs sub → has_some subs ≡ true
  some-there [] has = absurd (let below = has.1 in omega (arith, below))
  some-there (x ∷ subs) has = refl

  is-able : (into : List ℕ) (local : List Token) → is_for w conn into local sub ≡ true → Contains (eligible w conn before (view_of into local m)) sub
  is-able into local may =
      Contains-filter (λ (x : Subscription). is_for w conn into local x && is_to_receive (received_more (told_by before) x)) w.subscriptions sub stood
      (ap (λ b. b && is_to_receive (received_more (told_by before) sub)) may ∙ ap (λ o. is_below o (received_more (told_by before) sub).received) unlimited)

  request_has : (into : List ℕ) (local : List Token) (row : Row) (reply : Option (List Token)) → is_for w conn into local sub ≡ true → IsRequest w now conn m word before p into local row reply → HasItem (Service row)
  request_has into local row None may given = has_item (Service row) (view_of into local m) given.0 may given.2
  request_has into local row (Some reply) may given =
      here (is_full 1 now exporter)
      (subst (λ some. IsRequestTo some (is_full 1 now exporter) w now conn m word before p into local row reply) (some-there (eligible w conn before (view_of into local m)) (is-able into local may)) given)
    where
      exporter : Exporter
      exporter = exporter_of into (routes_behind (pruned now w.routes) before)

      here : (full : Bool) → IsRequestTo true full w now conn m word before p into local row reply → HasItem (Service row)
      here true none = inr (row, refl, subst (λ l. Contains l (RouteFull row)) (sym none.1) (Contains-head (RouteFull row) []))
      here false given = has_item (Service row) (view_with into local (Some (route_subject word (exporter.last + 1))) m) given.0 may given.2

  pub view_has : (into : List ℕ) (local : List Token) (way : Way) → is_for w conn into local sub ≡ true → IsGivenBy w now conn m word before p into local way → HasItem way
  view_has into local Own may given = has_item Own (view_of into local m) given.0 may given.2
  view_has into local (Stream row) may given = has_item (Stream row) (view_of into local m) given.0 may given.2
  view_has into local (Service row) may given = request_has into local row m.reply may given
  view_has into local (Response row) may given = has_item (Response row) (view_with into local None m) given.0 may given.2

left_out : (w : World) (now : ℕ) (by : By) (conn : ℕ) (asked : List Token) (m : Message) (word : ℕ) (account : List ℕ) (items : List Item) (after : World) → IsSent w now by conn asked m word account items after →
    (into : List ℕ) (local : List Token) (sub : Subscription) → (admitted : IsAdmitted w (pruned now w.routes) conn account m into local sub) → sub.queue ≡ None → sub.most ≡ None →
    Contains (map item_names items) (named sub) ⊎ HasNoRoute admitted.seen.way items
left_out w now by conn asked m word account items after sent into local sub admitted plain unlimited =
    here (view_has w now conn word m part.before part.here sub admitted.stood plain unlimited into local admitted.seen.way admitted.may given)
  where
    v : ViewItem
    v = At into local admitted.seen.way

    part : IsSplit (λ (p : ViewPart). p.view) sent.parts v
    part = split_at (λ (p : ViewPart). p.view) sent.parts v (subst (λ l. Contains l v) (sym sent.in_views) admitted.seen.view)

    given : IsGiven w now conn m word part.before part.here v
    given = subst (IsGiven w now conn m word part.before part.here) part.makes (sent.each part.before part.here part.later part.all)

    told : (item : Item) → Contains part.here.items item → Contains items item
    told item has =
        subst (λ l. Contains l item) (sym sent.items_are)
        (Contains-flat_map (λ (p : ViewPart). p.items) sent.parts part.here item (Contains-split (λ (p : ViewPart). p.view) sent.parts v part) has)

    here : Contains (map item_names part.here.items) (named sub) ⊎ HasNoRoute admitted.seen.way part.here.items → Contains (map item_names items) (named sub) ⊎ HasNoRoute admitted.seen.way items
    here (inl has) =
        let item = split_at item_names part.here.items (named sub) has in
        inl (subst (λ n. Contains (map item_names items) n) item.makes (Contains-map item_names items item.here (told item.here (Contains-split item_names part.here.items (named sub) item))))
    here (inr none) = inr (none.0, none.1, told (RouteFull none.0) none.2)

-- what isn't sent on comes to nobody
pub unsent_reaches_nobody : UnsentReachesNobody
unsent_reaches_nobody = of_each_mapped
    (λ w after conn u sent items. sent ≡ None → ((items ≡ UnmappedItem ∷ []) ⊎ ((index : ℕ) × (items ≡ MappedTooLong index ∷ []))) × AreNew (λ to d. ⊥) w.sessions after.sessions)
    by_mapping
  where
    nobody : (w after : World) (by : By) (conn : ℕ) (asked : List Token) → after.sessions ≡ map (receives after.moment by conn asked []) w.sessions → AreNew (λ to d. ⊥) w.sessions after.sessions
    nobody w after by conn asked is = new_in (λ to d. ⊥) after.moment by conn asked [] w.sessions after.sessions (λ to. All-nil _) is

    by_mapping : (w after : World) (by : By) (conn : ℕ) (m : Message) (word : ℕ) (u : User) (items : List Item) (mapped : Mapped) → IsMapped w after.moment by conn m word u.account items after mapped → sent_on mapped m ≡ None →
        ((items ≡ UnmappedItem ∷ []) ⊎ ((index : ℕ) × (items ≡ MappedTooLong index ∷ []))) × AreNew (λ to d. ⊥) w.sessions after.sessions
    by_mapping w after by conn m word u items Same is none = absurd (cc)
    by_mapping w after by conn m word u items (To s) is none = absurd (cc)
    by_mapping w after by conn m word u items Unmapped is none = (inl is.single, nobody w after by conn m.subject is.outboxes)
    by_mapping w after by conn m word u items (TooLong index) is none = (inr (index, is.single), nobody w after by conn m.subject is.outboxes)

pub nobody_left_out : NobodyLeftOut
nobody_left_out = of_each _ (λ w after by conn asked m word u items sent. left_out w after.moment by conn asked m word u.account items after sent)

-- ---- what follows for each

pub told_weaker : (P Q : ℕ → List ℕ → Type 0) (R S T U : Row → Type 0) → ((conn : ℕ) (sid : List ℕ) → P conn sid → Q conn sid) → ((row : Row) → R row → S row) → ((row : Row) → T row → U row) → (items : List Item) → All (IsTold P R T) items → All (IsTold Q S U) items
told_weaker P Q R S T U names long full items all k d below = here (get_or items k d) (all k d below)
  where
    here : (item : Item) → IsTold P R T item → IsTold Q S U item
    here (Entered conn sid) is = names conn sid is
    here (Full conn sid) is = names conn sid is
    here (RouteFull row) is = full row is
    here (MapTooLong row) is = long row is
    here UnmappedItem is = absurd is
    here (MappedTooLong index) is = absurd is

pub new_weaker : (P Q : ℕ → Delivery → Type 0) (before after : List Session) → ((to : ℕ) (d : Delivery) → P to d → Q to d) → AreNew P before after → AreNew Q before after
new_weaker P Q before after follows new to = here (session_of after to) (session_of before to) (new to)
  where
    Has : (ℕ → Delivery → Type 0) → Option Session → Session → Type 0
    Has R o z = IsSomeAnd o (λ (y : Session). (more : List Delivery) × (z.outbox.waiting ≡ y.outbox.waiting ++ more) × All (R to) more)

    here : (o p : Option Session) → IfSome o (Has P p) → IfSome o (Has Q p)
    here None p h = tt
    here (Some z) None h = h
    here (Some z) (Some y) h = (h.0, h.1, λ k d below. follows to _ (h.2 k d below))

-- a subscription that may be sent a message is of a user of the account in which it is seen
of_account : (w : World) (routes : Routes) (conn : ℕ) (account : List ℕ) (m : Message) (into : List ℕ) (local : List Token) (sub : Subscription) → IsAdmitted w routes conn account m into local sub → IsOfAccount w into sub.conn
of_account w routes conn account m into local sub admitted = here (user_at w sub.conn) (back _ _ admitted.may)
  where
    here : (o : Option User) → may_receive into local sub.queue o ≡ true → IsSomeAnd o (λ (u : User). u.account ≡ into)
    here None h = absurd (cc)
    here (Some u) h = (bytes_decides u.account into).0 (front _ _ h)

names_seen : (w : World) (routes : Routes) (conn : ℕ) (account : List ℕ) (m : Message) (to : ℕ) (sid : List ℕ) → NamesAdmitted w routes conn account m to sid → IsToOne (HasView w.policy routes account m.subject) w to
names_seen w routes conn account m to sid is =
    (is.0, is.1, is.3.seen.way, is.3.seen.view, subst (IsOfAccount w is.0) (ap (λ (n : ℕ × List ℕ). n.0) is.4) (of_account w routes conn account m is.0 is.1 is.2 is.3))

delivery_seen : (w : World) (routes : Routes) (conn : ℕ) (account : List ℕ) (m : Message) (to : ℕ) (d : Delivery) → IsDeliveryToAdmitted w routes conn account m to d → IsDeliveryToOne (HasView w.policy routes account m.subject) w m to d
delivery_seen w routes conn account m to d is =
    (is.0, is.1, is.3.seen.way, is.3.seen.view, subst (IsOfAccount w is.0) is.4 (of_account w routes conn account m is.0 is.1 is.2 is.3), is.5)

pub reaches_its_views : ReachesItsViews
reaches_its_views = weaker _ _ (λ w after conn u m items sound reaches. let routes : Routes = live_routes w after in record {
  told = told_weaker (NamesAdmitted w routes conn u.account m) _ (IsReported w.policy routes u.account m.subject) _ (IsRequested w.policy routes u.account m.subject) _ (names_seen w routes conn u.account m) (λ row is. is) (λ row is. is) items reaches.told;
  sent = new_weaker (IsDeliveryToAdmitted w routes conn u.account m) _ w.sessions after.sessions (delivery_seen w routes conn u.account m) reaches.sent;
}) nothing_unadmitted

names_apart : (w : World) (routes : Routes) → IsValidPolicy w.policy → (account : List ℕ) (m : Message) (to : ℕ) → IsToOne (HasView w.policy routes account m.subject) w to → IsToOne (ComesBy w.policy routes account m.subject) w to
names_apart w routes valid account m to is = (is.0, is.1, is.2, seen_by_ways w.policy valid routes account m.subject is.0 is.1 is.2 is.3, is.4)

delivery_apart : (w : World) (routes : Routes) → IsValidPolicy w.policy → (account : List ℕ) (m : Message) (to : ℕ) (d : Delivery) → IsDeliveryToOne (HasView w.policy routes account m.subject) w m to d → IsDeliveryToOne (ComesBy w.policy routes account m.subject) w m to d
delivery_apart w routes valid account m to d is = (is.0, is.1, is.2, seen_by_ways w.policy valid routes account m.subject is.0 is.1 is.2 is.3, is.4, is.5)

pub accounts_apart : AccountsApart
accounts_apart = weaker _ _ (λ w after conn u m items sound reaches. let routes : Routes = live_routes w after in let valid = sound.policy in record {
  told = told_weaker (λ to sid. IsToOne (HasView w.policy routes u.account m.subject) w to) _ (IsReported w.policy routes u.account m.subject) _ (IsRequested w.policy routes u.account m.subject) _
      (λ to sid is. names_apart w routes valid u.account m to is) (λ row is. (reported_by_rows w.policy valid routes u.account m.subject row).0 is)
      (λ row is. (is.0, is.1, seen_by_ways w.policy valid routes u.account m.subject is.0 is.1 (Service row) is.2)) items reaches.told;
  sent = new_weaker (IsDeliveryToOne (HasView w.policy routes u.account m.subject) w m) _ w.sessions after.sessions (delivery_apart w routes valid u.account m) reaches.sent;
}) reaches_its_views

-- ---- queue groups

module _ (w : World) (now conn word : ℕ) (m : Message) (before : List ViewPart) (p : ViewPart) where
  one_at : (into : List ℕ) (local : List Token) (seen : View) → p.seen ≡ seen → seen.account ≡ into → seen.message.subject ≡ local → IsGivenTo w conn word before p → HasOneOfEachAt w conn before into local p
  one_at into local seen is of under given = record {
    account = ap (λ (x : View). x.account) is ∙ of;
    subject = ap (λ (x : View). x.message.subject) is ∙ under;
    named = given.one_each;
    may = subst (All (Contains (eligible w conn before p.seen))) (sym given.served.some)
        (All-filter given.served.which (Contains (eligible w conn before p.seen)) _ (All-contains_itself (eligible w conn before p.seen)));
    one = λ name some. sym (length-map (members name p.subs) Some) ∙ ap length (given.served.one_each name some);
  }

  nobody : (subs : List Subscription) → has_some subs ≡ false → subs ≡ []
  nobody [] none = refl
  nobody (sub ∷ subs) none = absurd (cc)

  one_request : (into : List ℕ) (local : List Token) (row : Row) (reply : Option (List Token)) → IsRequest w now conn m word before p into local row reply → HasOneOfEach w conn m before p (At into local (Service row))
  one_request into local row None given = inl (one_at into local (view_of into local m) given.0 refl refl given.2)
  one_request into local row (Some reply) given = here (has_some (eligible w conn before (view_of into local m))) (is_full 1 now exporter) refl given
    where
      exporter : Exporter
      exporter = exporter_of into (routes_behind (pruned now w.routes) before)

      here : (some full : Bool) → has_some (eligible w conn before (view_of into local m)) ≡ some → IsRequestTo some full w now conn m word before p into local row reply → HasOneOfEach w conn m before p (At into local (Service row))
      here false full is given = inr (inr (given.1, nobody (eligible w conn before (view_of into local m)) is))
      here true true is given = inr (inl given.1)
      here true false is given = inl (one_at into local (view_with into local (Some (route_subject word (exporter.last + 1))) m) given.0 refl refl given.2)

  pub one_of_each : (v : ViewItem) → IsGiven w now conn m word before p v → HasOneOfEach w conn m before p v
  one_of_each (At into local Own) given = one_at into local (view_of into local m) given.0 refl refl given.2
  one_of_each (At into local (Stream row)) given = one_at into local (view_of into local m) given.0 refl refl given.2
  one_of_each (At into local (Service row)) given = one_request into local row m.reply given
  one_of_each (At into local (Response row)) given = one_at into local (view_with into local None m) given.0 refl refl given.2
  one_of_each (NotCrossed row) given = given.1

pub one_of_each_group : OneOfEachGroup
one_of_each_group = of_each _ (λ w after by conn asked m word u items sent. record {
  parts = sent.parts;
  in_views = sent.in_views;
  items_are = sent.items_are;
  each = λ before p later at. one_of_each w after.moment conn word m before p p.view (sent.each before p later at);
})
