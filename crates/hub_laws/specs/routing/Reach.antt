-- Whom a published message reaches (docs/GUARANTEE.md, "Laws of routing").
use Rattle.std.specs.Prelude.{◌≡◌, ◌⊎◌, ◌∷◌, ◌++◌, ℕ, List, [], true, length, map, Option, Some, None, All, Contains, IfSome, IsSomeAnd}
use Rattle.std.specs.List.{list_any}
use Rattle.subjects.specs.Subject.{Token}
use Rattle.policy_doc.specs.declared.exports.document.Row.{Row}
use Rattle.policy_doc.specs.declared.document.PolicyDoc.{PolicyDoc}
use Rattle.policy_ready.specs.declared.imports.view.ViewItem.{ViewItem}
use Rattle.policy_ready.specs.declared.imports.view.ViewItem.TheVariants.{At, TooLong}
use Rattle.policy_ready.specs.declared.imports.view.Way.{Way}
use Rattle.policy_ready.specs.declared.imports.view.Way.TheVariants.{Own, Stream, Service, Response}
use Rattle.service_routes.specs.Routes.{pruned}
use Rattle.policy_ready.specs.declared.ready.User.{User}
use Rattle.events.specs.Messages.{Message}
use Rattle.events.specs.declared.event.Event.{Event}
use Rattle.events.specs.declared.event.Command.TheVariants.{Pub}
use Rattle.events.specs.declared.answer.Delivery.{Delivery}
use Rattle.events.specs.declared.answer.Entry.{Entry}
use Rattle.events.specs.declared.answer.Item.{Item}
use Rattle.events.specs.declared.answer.Item.TheVariants.{Entered, Full, RouteFull, MapTooLong, Unmapped, MappedTooLong}
use Rattle.account_mappings.specs.Drawing.{mapped_by}
use Rattle.events.specs.declared.answer.Outcome.TheVariants.{Published}
use Rattle.permissions.specs.declared.verdict.By.{By}
use Rattle.world_sessions.specs.deliveries.Sessions.{session_of}
use Rattle.world_sessions.specs.declared.deliveries.session.Session.{Session}
use Rattle.world_subscriptions.specs.Addressing.{delivery_to}
use Rattle.world_subscriptions.specs.Subscription.{Subscription}
use Rattle.world_subscriptions.specs.groups.Served.{is_member, members}
use Rattle.world.specs.World.{World}
use Rattle.world.specs.Routing.{view_of}
use Rattle.world.specs.Transition.{sent_on}
use Rattle.hub.specs.Sound.{user_at}
use Rattle.hub.specs.History.{State}
use Rattle.hub.specs.Guarantee.{IsRouted, ViewPart, told_by, eligible, is_for, item_names, names_of}
use Rattle.hub_laws.specs.routing.Seen.{Routes, views_by, IsSeen, IsReported, IsRequested, IsSeenAs, IsTaken, ComesBy, IsTooLong}

-- What holds whenever a message is published, by its user in the policy in force, and as it is sent on, if it is.
abbrev pub OfEachPublished : (World → World → ℕ → User → Option Message → List Item → Type 0) → Type 0
OfEachPublished Holds =
    (s : State) (e : Event) (a : Entry) (after : State) → IsRouted s e a after → (conn : ℕ) (m : Message) (word : ℕ) (by : By) (items : List Item) →
    e.what ≡ Pub conn m word → a.outcome ≡ Published by items → IsSomeAnd (user_at s.world conn) (λ (u : User). Holds s.world after.world conn u (sent_on (mapped_by u.mappings m.subject word) m) items)

-- What holds whenever a message is published and sent on: of the worlds before and after, the connection, its user in the policy in
-- force, the message as it is sent on, and what is told.
abbrev pub OfEachPublish : (World → World → ℕ → User → Message → List Item → Type 0) → Type 0
OfEachPublish Holds = OfEachPublished (λ w after conn u sent items. IfSome sent (λ (m : Message). Holds w after conn u m items))

-- Each session had stood before, and what its outbox has beyond what it held is so.
abbrev pub AreNew : (ℕ → Delivery → Type 0) → List Session → List Session → Type 0
AreNew OfDelivery before after =
    (conn : ℕ) → IfSome (session_of after conn) (λ (z : Session). IsSomeAnd (session_of before conn) (λ (y : Session).
    (more : List Delivery) × (z.outbox.waiting ≡ y.outbox.waiting ++ more) × All (OfDelivery conn) more))

-- Each item that is told of a delivery is so, by the connection and the id that it names; each row that a message doesn't cross,
-- and each that a request has no route for; and each delivery that came into an outbox.
abbrev pub IsTold : (ℕ → List ℕ → Type 0) → (Row → Type 0) → (Row → Type 0) → Item → Type 0
IsTold OfNames OfLong OfFull (Entered conn sid) = OfNames conn sid
IsTold OfNames OfLong OfFull (Full conn sid) = OfNames conn sid
IsTold OfNames OfLong OfFull (RouteFull row) = OfFull row
IsTold OfNames OfLong OfFull (MapTooLong row) = OfLong row
IsTold OfNames OfLong OfFull Unmapped = ⊥
IsTold OfNames OfLong OfFull (MappedTooLong index) = ⊥

pub record Reaches (OfNames : ℕ → List ℕ → Type 0) (OfLong OfFull : Row → Type 0) (OfDelivery : ℕ → Delivery → Type 0) (items : List Item) (before after : List Session) : Type 0 where
  pub told : All (IsTold OfNames OfLong OfFull) items
  pub sent : AreNew OfDelivery before after

-- the response routes that live when a message is published
abbrev pub live_routes : World → World → Routes
live_routes w after = pruned after.moment w.routes

-- ---- what no policy admits reaches nobody

-- A message that a user of the account publishes may be sent to a subscription, where it is seen in an account on a subject.
pub record IsAdmitted (w : World) (routes : Routes) (conn : ℕ) (account : List ℕ) (m : Message) (into : List ℕ) (local : List Token) (sub : Subscription) : Type 0 where
  pub seen : IsSeen w.policy routes account m.subject into local
  -- it stood before
  pub stood : Contains w.subscriptions sub
  -- it has the subject, and the policy in force lets its user, who is of that account, be sent the message
  pub may : is_for w conn into local sub ≡ true

-- the connection and the id are those of such a subscription
abbrev pub NamesAdmitted : World → Routes → ℕ → List ℕ → Message → ℕ → List ℕ → Type 0
NamesAdmitted w routes conn account m to sid =
    (into : List ℕ) × (local : List Token) × (sub : Subscription) × IsAdmitted w routes conn account m into local sub × (names_of sub ≡ (to, sid))

-- the delivery is that of the message, as it is seen there, to such a subscription of the connection
abbrev pub IsDeliveryToAdmitted : World → Routes → ℕ → List ℕ → Message → ℕ → Delivery → Type 0
IsDeliveryToAdmitted w routes conn account m to d =
    (into : List ℕ) × (local : List Token) × (sub : Subscription) × (admitted : IsAdmitted w routes conn account m into local sub) × (sub.conn ≡ to)
    × IsSeenAs admitted.seen.way local m d.message × (d ≡ delivery_to d.message sub)

-- What isn't admitted reaches nobody: each item of a delivery, and each delivery that comes into an outbox, is for a
-- subscription that stood before and may be sent the message in one of its views. Each row that is reported is one that the
-- message doesn't cross, or has no response route for.
abbrev pub NothingUnadmitted : Type 0
NothingUnadmitted = OfEachPublish (λ w after conn u m items. let routes = live_routes w after in
    Reaches (NamesAdmitted w routes conn u.account m) (IsReported w.policy routes u.account m.subject) (IsRequested w.policy routes u.account m.subject)
    (IsDeliveryToAdmitted w routes conn u.account m) items w.sessions after.sessions)

-- A message that its account's mappings don't send on reaches nobody: its one item tells so, and nothing comes into an outbox.
abbrev pub UnsentReachesNobody : Type 0
UnsentReachesNobody = OfEachPublished (λ w after conn u sent items. sent ≡ None →
    ((items ≡ Unmapped ∷ []) ⊎ ((index : ℕ) × (items ≡ MappedTooLong index ∷ []))) × AreNew (λ to d. ⊥) w.sessions after.sessions)

-- ---- nobody is left out

-- the row of a request is reported, since it has no response route
abbrev pub HasNoRoute : Way → List Item → Type 0
HasNoRoute way items = (row : Row) × (way ≡ Service row) × Contains items (RouteFull row)

-- And whoever may be sent it, for a subscription of no queue group and without a limit, has an item, unless the message comes
-- there as a request for which there is no response route.
abbrev pub NobodyLeftOut : Type 0
NobodyLeftOut = OfEachPublish (λ w after conn u m items.
    (into : List ℕ) (local : List Token) (sub : Subscription) → (admitted : IsAdmitted w (live_routes w after) conn u.account m into local sub) → sub.queue ≡ None → sub.most ≡ None →
    Contains (map item_names items) (Some (names_of sub)) ⊎ HasNoRoute admitted.seen.way items)

-- ---- accounts

-- the connection's user is, in the policy in force, of the account
abbrev pub IsOfAccount : World → List ℕ → ℕ → Type 0
IsOfAccount w account conn = IsSomeAnd (user_at w conn) (λ (u : User). u.account ≡ account)

-- the connection's account is one of these, beside a subject and a way
abbrev pub IsToOne : (List ℕ → List Token → Way → Type 0) → World → ℕ → Type 0
IsToOne Where w to = (into : List ℕ) × (local : List Token) × (way : Way) × Where into local way × IsOfAccount w into to

-- and the delivery has the message as it is seen there
abbrev pub IsDeliveryToOne : (List ℕ → List Token → Way → Type 0) → World → Message → ℕ → Delivery → Type 0
IsDeliveryToOne Where w m to d = (into : List ℕ) × (local : List Token) × (way : Way) × Where into local way × IsOfAccount w into to × IsSeenAs way local m d.message

-- it has a view there
abbrev pub HasView : PolicyDoc → Routes → List ℕ → List Token → List ℕ → List Token → Way → Type 0
HasView doc routes account s into local way = Contains (views_by doc routes account s) (At into local way)

-- A message reaches sessions of those accounts alone in which it is seen, and there under the subject that it is seen on.
abbrev pub ReachesItsViews : Type 0
ReachesItsViews = OfEachPublish (λ w after conn u m items. let routes = live_routes w after in
    Reaches (λ to sid. IsToOne (HasView w.policy routes u.account m.subject) w to) (IsReported w.policy routes u.account m.subject) (IsRequested w.policy routes u.account m.subject)
    (IsDeliveryToOne (HasView w.policy routes u.account m.subject) w m) items w.sessions after.sessions)

-- a row takes a request to an account
abbrev pub IsTakenAcross : PolicyDoc → List ℕ → List Token → Row → Type 0
IsTakenAcross doc account s row = (into : List ℕ) × (local : List Token) × IsTaken doc account s into local (Service row)

-- So a message reaches sessions of its publisher's account, under the published subject; those of another account across an import
-- row of the policy, which has one end there and one in the publisher's account, and which an export admits, under the row's
-- subject there; and as a response those of the account that has asked, under the reply of its request. A row is reported where
-- that subject would be too long, or a request across it has no response route.
abbrev pub AccountsApart : Type 0
AccountsApart = OfEachPublish (λ w after conn u m items. let routes = live_routes w after in
    Reaches (λ to sid. IsToOne (ComesBy w.policy routes u.account m.subject) w to) (IsTooLong w.policy u.account m.subject) (IsTakenAcross w.policy u.account m.subject)
    (IsDeliveryToOne (ComesBy w.policy routes u.account m.subject) w m) items w.sessions after.sessions)

-- ---- queue groups

-- What is told of one view in an account, on a subject, behind the parts before it: an item for each of some subscriptions
-- that may be sent the message there, of which one, and no other, is a member of each queue group that has a member among
-- those.
pub record HasOneOfEachAt (w : World) (conn : ℕ) (before : List ViewPart) (into : List ℕ) (local : List Token) (p : ViewPart) : Type 0 where
  pub account : p.seen.account ≡ into
  pub subject : p.seen.message.subject ≡ local
  pub named : map item_names p.items ≡ map (λ (sub : Subscription). Some (names_of sub)) p.subs
  pub may : All (Contains (eligible w conn before p.seen)) p.subs
  pub one : (name : List ℕ) → list_any (is_member name) (eligible w conn before p.seen) ≡ true → length (members name p.subs) ≡ 1

-- of a row that is reported nothing else is told, and nothing is told of a request for nobody
abbrev pub HasOneOfEach : World → ℕ → Message → List ViewPart → ViewPart → ViewItem → Type 0
HasOneOfEach w conn m before p (At into local Own) = HasOneOfEachAt w conn before into local p
HasOneOfEach w conn m before p (At into local (Stream row)) = HasOneOfEachAt w conn before into local p
HasOneOfEach w conn m before p (At into local (Service row)) =
    HasOneOfEachAt w conn before into local p ⊎ ((p.items ≡ RouteFull row ∷ []) ⊎ ((p.items ≡ []) × (eligible w conn before (view_of into local m) ≡ [])))
HasOneOfEach w conn m before p (At into local (Response row)) = HasOneOfEachAt w conn before into local p
HasOneOfEach w conn m before p (TooLong row) = p.items ≡ MapTooLong row ∷ []

-- What is told is what is told of each view, in order.
pub record HasOneInEach (w : World) (routes : Routes) (conn : ℕ) (account : List ℕ) (m : Message) (items : List Item) : Type 0 where
  pub parts : List ViewPart
  pub in_views : map (λ (p : ViewPart). p.view) parts ≡ views_by w.policy routes account m.subject
  pub items_are : items ≡ told_by parts
  pub each : (before : List ViewPart) (p : ViewPart) (later : List ViewPart) → parts ≡ before ++ p ∷ later → HasOneOfEach w conn m before p p.view

-- Of each queue group with a member that may be sent the message exactly one has an item, in each view that isn't reported.
abbrev pub OneOfEachGroup : Type 0
OneOfEachGroup = OfEachPublish (λ w after conn u m items. HasOneInEach w (live_routes w after) conn u.account m items)
