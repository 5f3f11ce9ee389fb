-- The routing guarantee: what each step of a hub keeps, in terms of the policy in force, which is that of the
-- world before the step (docs/GUARANTEE.md, "The guarantee").
use Rattle.std.specs.Prelude.{◌≡◌, ◌==◌, ◌+◌, ◌-◌, ◌^◌, ◌&&◌, ◌||◌, ◌∷◌, ◌++◌, ℕ, List, [], Bool, true, false, Option, Some, None, Result, Ok, Err, if◌then◌else◌, filter, map, not, length, is_some, All, IfSome, IsSomeAnd, nat_lt, nat_le, nat_eq, max, min, take, drop}
use Rattle.std.specs.List.{list_any, flat_map}
use Rattle.std.specs.Option.{option_map, option_and_then}
use Rattle.std.specs.Cmp.Lexicographic.{pointwise}
use Rattle.subjects.specs.Subject.{Token, in_set}
use Rattle.permissions.specs.Verdicts.{publish_verdict, subscribe_verdict, delivery_verdict, is_allowed, IsJustifiedPublish, IsJustifiedSubscribe, IsJustifiedDelivery}
use Rattle.permissions.specs.declared.verdict.By.{By}
use Rattle.permissions.specs.declared.verdict.By.TheVariants.{All as AllowsAll, Index, Grant}
use Rattle.permissions.specs.declared.verdict.Verdict.{Verdict}
use Rattle.permissions.specs.declared.verdict.Verdict.TheVariants.{Allowed}
use Rattle.policy_ready.specs.Users.{user_with_password}
use Rattle.policy_ready.specs.declared.ready.User.{User}
use Rattle.events.specs.Messages.{Message}
use Rattle.events.specs.declared.event.Event.{Event}
use Rattle.events.specs.declared.event.Command.{Command}
use Rattle.events.specs.declared.event.Command.TheVariants.{Connect, Sub, Unsub, Pub, Take, Close, Reload}
use Rattle.events.specs.declared.answer.Delivery.{Delivery}
use Rattle.events.specs.declared.answer.Item.{Item}
use Rattle.events.specs.declared.answer.Item.TheVariants.{Entered, Full, RouteFull, MapTooLong, Unmapped as UnmappedItem, MappedTooLong}
use Rattle.policy_ready.specs.Drawing.{mapped_by}
use Rattle.policy_ready.specs.Mapped.{Mapped}
use Rattle.policy_ready.specs.Mapped.TheVariants.{Same, To, Unmapped, TooLong}
use Rattle.events.specs.declared.answer.Outcome.{Outcome}
use Rattle.events.specs.declared.answer.Outcome.TheVariants.{Connected, AuthViolation, Subscribed, SameSid, SubLimit, Denied, Unsubscribed, Published, Taken, Closed, Reloaded}
use Rattle.events.specs.declared.answer.Entry.{Entry}
use Rattle.events.specs.declared.refusal.HubRefusal.{HubRefusal}
use Rattle.events.specs.declared.refusal.HubRefusal.TheVariants.{HistoryFull, NoSession, SessionTaken, SessionLimit, NoMemory}
use Rattle.world_sessions.specs.deliveries.Sessions.{session_of, new_session, drained}
use Rattle.world_sessions.specs.declared.deliveries.session.Session.{Session}
use Rattle.world_subscriptions.specs.Subscriptions.{stands, has_all, subscription_of}
use Rattle.world_subscriptions.specs.Limit.{limited, is_entry_for}
use Rattle.world_rows.specs.declared.subscription.Subscription.{Subscription}
use Rattle.world_subscriptions.specs.queue_choice.Choices.{chosen}
use Rattle.world.specs.World.{World}
use Rattle.policy_ready.specs.imports.Across.{views}
use Rattle.policy_ready.specs.declared.imports.view.ViewItem.{ViewItem}
use Rattle.policy_ready.specs.declared.imports.view.ViewItem.TheVariants.{At, TooLong as NotCrossed}
use Rattle.policy_ready.specs.declared.imports.view.Way.{Way}
use Rattle.policy_ready.specs.declared.imports.view.Way.TheVariants.{Own, Stream, Service, Response}
use Rattle.policy_doc.specs.declared.exports.document.Row.{Row}
use Rattle.service_exporter.specs.Limit.{is_full}
use Rattle.service_exporter.specs.Routes.{Exporter}
use Rattle.service_exporter.specs.declared.route.Route.{Route}
use Rattle.service_routes.specs.Routes.{Name, exporter_of, opened, pruned, spent}
use Rattle.world.specs.Routing.{View, view_of, view_with, next_subject, responses_on, route_for, under_subject}
use Rattle.world_subscriptions.specs.groups.Served.{is_member, members}
use Rattle.world_subscriptions.specs.Addressing.{delivery_to}
use Rattle.hub.specs.Sound.{IsSound, user_at, may_subscribe, HasAllowance, is_to_receive}
use Rattle.hub.specs.Items.{DeliveryItem, delivery_item, tells_of}
use Rattle.hub.specs.Replies.{may_respond, replies_after}
use Rattle.hub.specs.History.{State, is_history_full}
use Rattle.hub.specs.InForce.{IsInForce, policy_after, epoch_after}
use Rattle.hub.specs.Run.{EachStep}

-- ---- accepted and allowed

-- whether an outcome accepts its command. A limit is not a denial: it comes only to what the policy allows.
abbrev pub accepts : Outcome → Bool
accepts Connected = true
accepts AuthViolation = false
accepts Subscribed = true
accepts SameSid = true
accepts SubLimit = true
accepts (Denied verdict) = false
accepts (Published by items) = true
accepts (Taken deliveries missed) = true
accepts Unsubscribed = true
accepts Closed = true
accepts (Reloaded gone removed) = true

-- whether a user may publish on a subject
abbrev pub may_publish : Option User → List Token → Bool
may_publish None s = false
may_publish (Some u) s = is_allowed (publish_verdict u.rules s)

-- Whether the policy in force allows a command at a moment: a Connect, where a user has that name and password; a Sub and
-- a Pub, by the permissions of the connection's user, or a Pub by a live grant; the others always.
abbrev pub allows : World → ℕ → Command → Bool
allows w now (Connect conn name password echo) = is_some (user_with_password w.policy name password)
allows w now (Sub conn p queue sid) = may_subscribe (user_at w conn) p queue
allows w now (Unsub conn sid most) = true
allows w now (Pub conn m word) = may_publish (user_at w conn) m.subject || may_respond w now conn m.subject
allows w now (Take conn most) = true
allows w now (Close conn) = true
allows w now (Reload doc) = true

-- ---- reasons

-- A denial is the verdict of the user's permissions in the policy in force, and it has its reason: the entry it
-- names is the least deny entry that has all that was asked; or no deny entry has it, an allow list is given, and
-- each of its entries lacks some of it, or, of a Sub with a queue, those that have it are for other queues. Only a Sub
-- and a Pub are denied.
abbrev pub IsDenial : World → Command → Verdict → Type 0
IsDenial w (Connect conn name password echo) v = ⊥
IsDenial w (Sub conn p queue sid) v =
    IsSomeAnd (user_at w conn) (λ (u : User). (v ≡ subscribe_verdict u.rules p queue)
    × IsJustifiedSubscribe p queue u.rules.subscribe v)
IsDenial w (Unsub conn sid most) v = ⊥
IsDenial w (Pub conn m word) v =
    IsSomeAnd (user_at w conn) (λ (u : User). (v ≡ publish_verdict u.rules m.subject)
    × IsJustifiedPublish m.subject u.rules.publish v)
IsDenial w (Take conn most) v = ⊥
IsDenial w (Close conn) v = ⊥
IsDenial w (Reload doc) v = ⊥

-- A Pub that is allowed by the lists is so by the rule that is told, with its reason. One that a grant allows is refused
-- by the lists, with reason, and there is a live grant for its subject.
abbrev pub IsAllowance : World → ℕ → ℕ → List Token → User → By → Type 0
IsAllowance w now conn s u AllowsAll = (publish_verdict u.rules s ≡ Allowed AllowsAll) × IsJustifiedPublish s u.rules.publish (Allowed AllowsAll)
IsAllowance w now conn s u (Index i) = (publish_verdict u.rules s ≡ Allowed (Index i)) × IsJustifiedPublish s u.rules.publish (Allowed (Index i))
IsAllowance w now conn s u Grant =
    (is_allowed (publish_verdict u.rules s) ≡ false) × IsJustifiedPublish s u.rules.publish (publish_verdict u.rules s) × (may_respond w now conn s ≡ true)

-- What is denied is denied with reason, and what is allowed is allowed with reason: each deny entry lacks some of what
-- was asked, and no allow list is given, or one of its entries is the least that has all of it. Of a Pub it is the one
-- that is told.
abbrev pub HasReason : World → ℕ → Command → Outcome → Type 0
HasReason w now c (Denied v) = IsDenial w c v
HasReason w now (Sub conn p queue sid) Subscribed = HasAllowance (user_at w conn) p queue
HasReason w now (Sub conn p queue sid) SameSid = HasAllowance (user_at w conn) p queue
HasReason w now (Sub conn p queue sid) SubLimit = HasAllowance (user_at w conn) p queue
HasReason w now (Pub conn m word) (Published by items) = IsSomeAnd (user_at w conn) (λ (u : User). IsAllowance w now conn m.subject u by)
HasReason w now c _ = Unit {0}

-- ---- delivery

-- whether a user is of the account, and may be sent a message on the subject, for a subscription of that queue group or
-- of none
abbrev pub may_receive : List ℕ → List Token → Option (List Token) → Option User → Bool
may_receive account s queue None = false
may_receive account s queue (Some u) = pointwise nat_eq u.account account && is_allowed (delivery_verdict u.rules s queue)

-- whether a connection is sent its own messages, as its session was asked to
abbrev pub has_echo : Option Session → Bool
has_echo None = false
has_echo (Some z) = z.echo

-- a message that a connection publishes, of an account, may be sent to a subscription that has its subject, that isn't
-- the connection's own where it is sent none of its own, and whose user in the policy in force is of that account and
-- may be sent it
abbrev pub is_for : World → ℕ → List ℕ → List Token → Subscription → Bool
is_for w conn account s sub =
    in_set sub.subject s && (has_echo (session_of w.sessions conn) || not (sub.conn == conn)) && may_receive account s sub.queue (user_at w sub.conn)

-- how often these items of a message tell that it has entered for a subscription
abbrev pub times_entered : List Item → Subscription → ℕ
times_entered items sub = length (filter (is_entry_for sub) items)

-- a subscription once these items of a message were told: it has received it as often as they tell; the count stays at
-- 2^64 - 1
abbrev pub received_more : List Item → Subscription → Subscription
received_more items sub = record sub { received = min (2 ^ 64 - 1) (sub.received + times_entered items sub) }

-- a response route that a request opens, and the name of its exporter
pub record Opening : Type 0 where
  pub exporter : Name
  pub route : Route

-- What one view of a message gives: the message as it is seen there, to whom it goes, what is told of it, and the route that
-- it opens, if it is a request that opens one.
pub record ViewPart : Type 0 where
  pub view : ViewItem
  pub seen : View
  pub subs : List Subscription
  pub items : List Item
  pub opens : Option Opening

-- what parts tell, the first first
abbrev pub told_by : List ViewPart → List Item
told_by parts = flat_map (λ (p : ViewPart). p.items) parts

-- the routes once one is opened, and once parts have opened theirs, the first first
abbrev pub with_opening : Option Opening → List (Name × Exporter) → List (Name × Exporter)
with_opening None routes = routes
with_opening (Some o) routes = opened o.exporter o.route routes

abbrev pub routes_behind : List (Name × Exporter) → List ViewPart → List (Name × Exporter)
routes_behind routes [] = routes
routes_behind routes (p ∷ parts) = routes_behind (with_opening p.opens routes) parts

-- the subscriptions that a message may be sent to as it is seen, oldest first: those that are still to receive, once what the
-- parts before have told is counted
abbrev pub eligible : World → ℕ → List ViewPart → View → List Subscription
eligible w conn before v =
    filter (λ (sub : Subscription). is_for w conn v.account v.message.subject sub && is_to_receive (received_more (told_by before) sub)) w.subscriptions

abbrev pub has_some : List Subscription → Bool
has_some [] = false
has_some (sub ∷ subs) = true

-- a subscription of no queue group
abbrev pub is_plain : Subscription → Bool
is_plain sub = not (is_some sub.queue)

-- Whom a message is for, of those that it may be sent to (NATS documentation, "Queue Groups").
pub record AreServed (word : ℕ) (from subs : List Subscription) : Type 0 where
  -- some of these, oldest first, and nobody else
  pub which : Subscription → Bool
  pub some : subs ≡ filter which from
  -- each plain one
  pub plain : filter is_plain subs ≡ filter is_plain from
  -- and of each queue group with a member among these, whatever their patterns, exactly one: number
  -- (word mod 2^32) mod n of its n members, by age
  pub one_each : (name : List ℕ) → list_any (is_member name) from ≡ true → map Some (members name subs) ≡ chosen word (members name from) ∷ []

-- Whether the user behind a subscription may be sent it has its reason: each deny entry of its subscribe lists lacks
-- the subject, or the least that has it refuses.
abbrev pub IsReasonedFor : World → List Token → Subscription → Type 0
IsReasonedFor w s sub =
    IfSome (user_at w sub.conn) (λ (u : User). IsJustifiedDelivery s sub.queue u.rules.subscribe (delivery_verdict u.rules s sub.queue))

-- how many more deliveries the outbox of a connection's session has room for
abbrev pub room_in : Option Session → ℕ
room_in None = 0
room_in (Some z) = z.outbox.capacity - length z.outbox.waiting

-- A session after deliveries of a message that a connection has published on a subject: its outbox holds what it held,
-- and as many of them, oldest first, as it had room for; one was missed if it has missed one before, or there was no room
-- for all; and its grants are those after the response, if it is one, and after what has entered.
abbrev pub receives : ℕ → By → ℕ → List Token → List Delivery → Session → Session
receives now by conn s ds z = record z {
  outbox = record z.outbox { waiting = z.outbox.waiting ++ take (room_in (Some z)) ds };
  missed = z.missed || nat_lt (room_in (Some z)) (length ds);
  replies = replies_after now by conn s (take (room_in (Some z)) ds) z;
}

-- the item of a subscription that its delivery has entered, and of one that found the outbox full
abbrev pub entered : Subscription → Item
entered sub = Entered sub.conn sub.sid

abbrev pub found_full : Subscription → Item
found_full sub = Full sub.conn sub.sid

-- the items of subscriptions of one session: as many have entered as there was room for, and the others not
abbrev pub items_with_room : ℕ → List Subscription → List Item
items_with_room room subs = map entered (take room subs) ++ map found_full (drop room subs)

-- the connection and the id that an item names, if it is of a delivery
abbrev pub item_names : Item → Option (ℕ × List ℕ)
item_names item = option_map (λ (d : DeliveryItem). (d.conn, d.sid)) (delivery_item item)

abbrev pub names_of : Subscription → ℕ × List ℕ
names_of sub = (sub.conn, sub.sid)

-- the items of one connection
abbrev pub items_of : ℕ → List Item → List Item
items_of conn items = filter (tells_of (λ (d : DeliveryItem). d.conn == conn)) items

-- In a view the message goes to those that it is for as it is seen there, and to nobody else.
pub record IsGivenTo (w : World) (conn word : ℕ) (before : List ViewPart) (p : ViewPart) : Type 0 where
  -- those that it is for, of those that it may be sent to: the plain ones and one of each queue group
  pub served : AreServed word (eligible w conn before p.seen) p.subs
  -- which of the standing subscriptions may be sent it, is decided with reason
  pub reasons : All (IsReasonedFor w p.seen.message.subject) w.subscriptions
  -- each of them has one item, oldest first, and nobody else has one
  pub one_each : map item_names p.items ≡ map (λ (sub : Subscription). Some (names_of sub)) p.subs

-- A request that wants a response on this reply, where somebody may be sent it (`true`), and the exporter has as many routes as it
-- may have (`true`), or hasn't. For nobody, nothing comes of it. Without room for a route its row is reported, and it is given to
-- nobody. Else it is seen with the subject of the exporter's next route in place of its reply, and that route is opened for its
-- response: for this row, on the terms of the row's export, at this moment.
abbrev pub IsRequestTo : Bool → Bool → World → ℕ → ℕ → Message → ℕ → List ViewPart → ViewPart → List ℕ → List Token → Row → List Token → Type 0
IsRequestTo false full w now conn m word before p account s row reply = (p.subs ≡ []) × (p.items ≡ []) × (p.opens ≡ None)
IsRequestTo true true w now conn m word before p account s row reply = (p.subs ≡ []) × (p.items ≡ RouteFull row ∷ []) × (p.opens ≡ None)
IsRequestTo true false w now conn m word before p account s row reply =
    (p.seen ≡ view_with account s (Some (next_subject word (exporter_of account (routes_behind (pruned now w.routes) before)))) m)
    × (p.opens ≡ Some record { exporter = account; route = route_for w.policy row reply word now })
    × IsGivenTo w conn word before p

-- One that wants no response is seen as it was published.
abbrev pub IsRequest : World → ℕ → ℕ → Message → ℕ → List ViewPart → ViewPart → List ℕ → List Token → Row → Option (List Token) → Type 0
IsRequest w now conn m word before p account s row None = (p.seen ≡ view_of account s m) × (p.opens ≡ None) × IsGivenTo w conn word before p
IsRequest w now conn m word before p account s row (Some reply) =
    IsRequestTo (has_some (eligible w conn before (view_of account s m))) (is_full 1 now (exporter_of account (routes_behind (pruned now w.routes) before)))
    w now conn m word before p account s row reply

-- What a message gives in an account, by the way on which it comes there. It goes to those that it is for there, under the view's
-- subject; a response has no reply.
abbrev pub IsGivenBy : World → ℕ → ℕ → Message → ℕ → List ViewPart → ViewPart → List ℕ → List Token → Way → Type 0
IsGivenBy w now conn m word before p account s Own = (p.seen ≡ view_of account s m) × (p.opens ≡ None) × IsGivenTo w conn word before p
IsGivenBy w now conn m word before p account s (Stream row) = (p.seen ≡ view_of account s m) × (p.opens ≡ None) × IsGivenTo w conn word before p
IsGivenBy w now conn m word before p account s (Service row) = IsRequest w now conn m word before p account s row m.reply
IsGivenBy w now conn m word before p account s (Response row) = (p.seen ≡ view_with account s None m) × (p.opens ≡ None) × IsGivenTo w conn word before p

-- What a view gives, behind the parts before it. An import row that the message doesn't cross is reported once, and gives it to
-- nobody.
abbrev pub IsGiven : World → ℕ → ℕ → Message → ℕ → List ViewPart → ViewPart → ViewItem → Type 0
IsGiven w now conn m word before p (At account s way) = IsGivenBy w now conn m word before p account s way
IsGiven w now conn m word before p (NotCrossed row) = (p.subs ≡ []) × (p.items ≡ MapTooLong row ∷ []) × (p.opens ≡ None)

abbrev pub IsViewPart : World → ℕ → ℕ → Message → ℕ → List ViewPart → ViewPart → Type 0
IsViewPart w now conn m word before p = IsGiven w now conn m word before p p.view

-- A message, as it is seen in a view, for a subscription.
pub record Sending : Type 0 where
  pub message : Message
  pub to : Subscription

abbrev pub sendings_in : ViewPart → List Sending
sendings_in p = map (λ (sub : Subscription). record { message = p.seen.message; to = sub }) p.subs

-- what is sent in these parts, the first first, and in each to the oldest subscription first
abbrev pub sendings : List ViewPart → List Sending
sendings parts = flat_map sendings_in parts

-- what is sent to a connection
abbrev pub sent_to : ℕ → List Sending → List Sending
sent_to conn ss = filter (λ (s : Sending). s.to.conn == conn) ss

abbrev pub delivery_of : Sending → Delivery
delivery_of s = delivery_to s.message s.to

abbrev pub receiver : Sending → Subscription
receiver s = s.to

-- A message on its way, in all its views.
pub record IsDelivered (w : World) (now : ℕ) (by : By) (publisher : ℕ) (subject : List Token) (ss : List Sending) (items : List Item) (after : List Session) : Type 0 where
  -- those for a connection have entered as long as there was room in its outbox; Full is reported of the others
  pub with_room : (conn : ℕ) → items_of conn items ≡ items_with_room (room_in (session_of w.sessions conn)) (map receiver (sent_to conn ss))
  -- and these deliveries are what came into the outboxes, and what was noted
  pub outboxes : after ≡ map (λ (z : Session). receives now by publisher subject (map delivery_of (sent_to z.conn ss)) z) w.sessions

-- A message that a user of the account has published on a subject, as it is sent on: what each of its views gives, by the policy in
-- force and the routes that live, and what comes of all.
pub record IsSent (w : World) (now : ℕ) (by : By) (conn : ℕ) (asked : List Token) (m : Message) (word : ℕ) (account : List ℕ) (items : List Item) (after : World) : Type 0 where
  pub parts : List ViewPart
  -- each view of the message, in order, and no other: across the rows of the policy, and where the account has a live route on
  -- the subject, the response
  pub in_views : map (λ (p : ViewPart). p.view) parts ≡ views w.policy account m.subject (responses_on (pruned now w.routes) account m.subject)
  -- each gives what it gives behind those before it
  pub each : (before : List ViewPart) (p : ViewPart) (later : List ViewPart) → parts ≡ before ++ p ∷ later → IsViewPart w now conn m word before p
  -- what is told is what they tell
  pub items_are : items ≡ told_by parts
  pub delivered : IsDelivered w now by conn asked (sendings parts) items after.sessions
  -- the routes that live stand, and behind them those that the message has opened; one of the account on its subject has ended,
  -- if it was for a single response
  pub routes : after.routes ≡ spent account m.subject (routes_behind (pruned now w.routes) parts)

-- One that isn't sent on: this is its single item, it has come into no outbox, and of the response routes those stand that live.
pub record IsSeenNowhere (w : World) (now : ℕ) (by : By) (conn : ℕ) (asked : List Token) (item : Item) (items : List Item) (after : World) : Type 0 where
  pub single : items ≡ item ∷ []
  pub outboxes : after.sessions ≡ map (receives now by conn asked []) w.sessions
  pub routes : after.routes ≡ pruned now w.routes

-- It is sent on under the subject that its account's mappings give it, if they give it one.
abbrev pub IsMapped : World → ℕ → By → ℕ → Message → ℕ → List ℕ → List Item → World → Mapped → Type 0
IsMapped w now by conn m word account items after Same = IsSent w now by conn m.subject m word account items after
IsMapped w now by conn m word account items after (To s) = IsSent w now by conn m.subject (under_subject s m) word account items after
IsMapped w now by conn m word account items after Unmapped = IsSeenNowhere w now by conn m.subject UnmappedItem items after
IsMapped w now by conn m word account items after (TooLong index) = IsSeenNowhere w now by conn m.subject (MappedTooLong index) items after

-- ---- what a step does

-- no session, outbox or subscription has changed, and of the response routes those stand that live
pub record IsUntouched (w : World) (now : ℕ) (after : World) : Type 0 where
  pub sessions : after.sessions ≡ w.sessions
  pub subscriptions : after.subscriptions ≡ w.subscriptions
  pub routes : after.routes ≡ pruned now w.routes

-- What an answered command does to the sessions and subscriptions, by what it was answered.
abbrev pub IsEffect : World → ℕ → Command → Outcome → World → Type 0
-- a session of the user stands, the last, with nothing in its outbox
IsEffect w now (Connect conn name password echo) Connected after =
    IsSomeAnd (user_with_password w.policy name password) (λ (u : User). after.sessions ≡ w.sessions ++ new_session conn u echo w.capacity ∷ [])
    × (after.subscriptions ≡ w.subscriptions) × (after.routes ≡ pruned now w.routes)
IsEffect w now (Connect conn name password echo) AuthViolation after = IsUntouched w now after
-- the subscription stands, the youngest, of the user's account, where none of that id stood and fewer than 4,096 of the
-- connection's; else nothing changes
IsEffect w now (Sub conn p queue sid) Subscribed after =
    (stands w.subscriptions conn sid ≡ false) × (has_all w.subscriptions conn ≡ false) × (after.sessions ≡ w.sessions)
    × IsSomeAnd (user_at w conn) (λ (u : User). after.subscriptions ≡ w.subscriptions ++ subscription_of after.number conn u.account p queue sid ∷ [])
    × (after.routes ≡ pruned now w.routes)
IsEffect w now (Sub conn p queue sid) SameSid after = (stands w.subscriptions conn sid ≡ true) × IsUntouched w now after
IsEffect w now (Sub conn p queue sid) SubLimit after =
    (stands w.subscriptions conn sid ≡ false) × (has_all w.subscriptions conn ≡ true) × IsUntouched w now after
IsEffect w now (Sub conn p queue sid) (Denied v) after = IsUntouched w now after
-- the connection's subscription of that id, if one stands, takes the limit, in place of an earlier one, and ends where
-- it has received as many; no other changes
IsEffect w now (Unsub conn sid most) Unsubscribed after =
    (after.sessions ≡ w.sessions) × (after.subscriptions ≡ filter is_to_receive (map (limited conn sid most) w.subscriptions)) × (after.routes ≡ pruned now w.routes)
-- the message, as it is sent on, in each of its views to those that it is for there, and to nobody else: of those that may be sent it the
-- plain ones, and of each queue group the one that the word chooses, room or not; each subscription counts it as often
-- as it has entered for it, and ends where that was the last that it was to receive
IsEffect w now (Pub conn m word) (Published by items) after =
    IsSomeAnd (user_at w conn) (λ (u : User). IsMapped w now by conn m word u.account items after (mapped_by u.mappings m.subject word))
    × (after.subscriptions ≡ filter is_to_receive (map (received_more items) w.subscriptions))
IsEffect w now (Pub conn m word) (Denied v) after = IsUntouched w now after
-- the oldest deliveries of the connection's session leave its outbox, and what was missed has been told
IsEffect w now (Take conn most) (Taken deliveries missed) after =
    IsSomeAnd (session_of w.sessions conn) (λ (z : Session). (deliveries ≡ take most z.outbox.waiting) × (missed ≡ z.missed))
    × (after.sessions ≡ map (λ (z : Session). if z.conn == conn then drained most z else z) w.sessions)
    × (after.subscriptions ≡ w.subscriptions) × (after.routes ≡ pruned now w.routes)
-- the connection's session and subscriptions go, and no others
IsEffect w now (Close conn) Closed after =
    (after.sessions ≡ filter (λ (z : Session). not (z.conn == conn)) w.sessions)
    × (after.subscriptions ≡ filter (λ (sub : Subscription). not (sub.conn == conn)) w.subscriptions)
    × (after.routes ≡ pruned now w.routes)
-- the policy is in force: sessions and subscriptions stay or go as it says
IsEffect w now (Reload doc) (Reloaded gone removed) after = IsInForce w now doc gone removed after
-- no command has another's answer
IsEffect w now command outcome after = ⊥

-- ---- refusals

-- the connection that a command names, if it names one; whether the command is to begin its session; and whether it
-- is nobody's
abbrev pub connection : Command → Option ℕ
connection (Connect conn name password echo) = Some conn
connection (Sub conn p queue sid) = Some conn
connection (Unsub conn sid most) = Some conn
connection (Pub conn m word) = Some conn
connection (Take conn most) = Some conn
connection (Close conn) = Some conn
connection (Reload doc) = None

abbrev pub is_connect : Command → Bool
is_connect (Connect conn name password echo) = true
is_connect (Sub conn p queue sid) = false
is_connect (Unsub conn sid most) = false
is_connect (Pub conn m word) = false
is_connect (Take conn most) = false
is_connect (Close conn) = false
is_connect (Reload doc) = false

abbrev pub is_nobodys : Command → Bool
is_nobodys c = not (is_some (connection c))

abbrev pub has_session : World → Command → Bool
has_session w c = is_some (option_and_then (session_of w.sessions) (connection c))

-- 4,096 sessions stand
abbrev pub is_at_limit : World → Bool
is_at_limit w = nat_le 4096 (length w.sessions)

-- whether the tables let a command be carried out: it is a Connect of a connection without a session, while there
-- is room for one more, or another command of a connection with one, or nobody's
abbrev pub is_fit : World → Command → Bool
is_fit w c = if is_connect c then not (has_session w c) && not (is_at_limit w) else (is_nobodys c || has_session w c)

-- Whether a command can be carried out: the history is not full, and the tables let it.
abbrev pub is_in_order : State → Command → Bool
is_in_order s c = not (is_history_full s) && is_fit s.world c

-- Where a refusal may be answered: the history is full; a Connect of a connection that has a session; another
-- command of one that has none; a Connect of one that has none, while 4,096 sessions stand; and want of memory
-- only where the command could be carried out.
abbrev pub is_due : State → Command → HubRefusal → Bool
is_due s c HistoryFull = is_history_full s
is_due s c SessionTaken = not (is_history_full s) && is_connect c && has_session s.world c
is_due s c NoSession = not (is_history_full s) && not (is_connect c || is_nobodys c) && not (has_session s.world c)
is_due s c SessionLimit = not (is_history_full s) && is_connect c && not (has_session s.world c) && is_at_limit s.world
is_due s c NoMemory = is_in_order s c

-- ---- the guarantee

-- An answered step, whose answer is the event's entry.
pub record IsRouted (s : State) (e : Event) (a : Entry) (after : State) : Type 0 where
  -- no refusal was due
  pub in_order : is_in_order s e.what ≡ true
  -- a command is accepted exactly where the policy in force allows it
  pub accepted : accepts a.outcome ≡ allows s.world (max s.world.moment e.now) e.what
  -- each denial names its deciding rule, or the missing allow
  pub reason : HasReason s.world (max s.world.moment e.now) e.what a.outcome
  -- sessions, outboxes, subscriptions and response routes change as the command asks, and in no other way
  pub effect : IsEffect s.world (max s.world.moment e.now) e.what a.outcome after.world
  -- the clock goes on to the event's moment, and the number rises by one; a reload, and nothing else, puts another
  -- policy in force and raises the epoch by one; the capacity stays
  pub others : (after.world ≡ record s.world { policy = policy_after s.world e.what; epoch = epoch_after s.world e.what; moment = max s.world.moment e.now; number = s.world.number + 1; sessions = after.world.sessions; subscriptions = after.world.subscriptions; routes = after.world.routes })
  pub number : a.number ≡ s.world.number + 1
  pub epoch : a.epoch ≡ epoch_after s.world e.what
  -- the answer has the event, and is entered behind all others, and nothing is forgotten
  pub event : a.event ≡ e
  pub history : after ≡ record s { world = after.world; entries = s.entries ++ a ∷ [] }
  -- what every hub keeps held before the step, and holds after it: no standing subscription is refused by the policy in force
  pub before : IsSound s.world
  pub sound : IsSound after.world

-- A refused step hands the event back and changes nothing, where its refusal is due.
pub record IsRefused (s : State) (e : Event) (refused : Event × HubRefusal) (after : State) : Type 0 where
  pub back : refused.0 ≡ e
  pub same : after ≡ s
  pub due : is_due s e.what refused.1 ≡ true

-- one step keeps the guarantee
abbrev pub KeepsGuarantee : State → Event → Result Entry (Event × HubRefusal) → State → Type 0
KeepsGuarantee s e (Ok a) after = IsRouted s e a after
KeepsGuarantee s e (Err refused) after = IsRefused s e refused after

-- Each step of a run keeps the guarantee, whatever the events.
abbrev pub IsGuarded : State → List Event → List (Result Entry (Event × HubRefusal)) → State → Type 0
IsGuarded = EachStep KeepsGuarantee
