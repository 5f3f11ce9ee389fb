-- Whom a message reaches (docs/GUARANTEE.md, "Delivery").
use Rattle.std.specs.Prelude.{◌&&◌, ◌∷◌, ◌++◌, ℕ, List, [], Bool, true, false, Option, Some, None, filter, map}
use Rattle.subjects.specs.Subject.{Token}
use Rattle.events.specs.Messages.{Message}
use Rattle.events.specs.declared.answer.Addressed.{Addressed}
use Rattle.events.specs.declared.answer.Item.{Item}
use Rattle.events.specs.declared.answer.Item.TheVariants.{RouteFull, MapTooLong}
use Rattle.policy_doc.specs.declared.exports.document.Row.{Row}
use Rattle.policy_ready.specs.declared.imports.view.ViewItem.{ViewItem}
use Rattle.policy_ready.specs.declared.imports.view.ViewItem.TheVariants.{At, TooLong}
use Rattle.policy_ready.specs.declared.imports.view.Way.{Way}
use Rattle.policy_ready.specs.declared.imports.view.Way.TheVariants.{Own, Stream, Service, Response}
use Rattle.service_exporter.specs.Limit.{is_full}
use Rattle.service_routes.specs.Routes.{exporter_of, opened}
use Rattle.world_sessions.specs.deliveries.Delivered.{delivered}
use Rattle.world_sessions.specs.deliveries.Replying.{noted_for}
use Rattle.world_sessions.specs.declared.deliveries.session.Session.{Session}
use Rattle.world_subscriptions.specs.Subscriptions.{has_subject}
use Rattle.world_subscriptions.specs.Addressing.{addressed_to}
use Rattle.world_subscriptions.specs.Limit.{unended, counted}
use Rattle.world_rows.specs.declared.subscription.Subscription.{Subscription}
use Rattle.world_subscriptions.specs.groups.Served.{served}
pub use Rattle.receivers.specs.views.Open.{lets_through, may_hear, is_open_to, is_open}
pub use Rattle.world_views.specs.addressing.Standing.{is_nil}
pub use Rattle.receivers.specs.views.CachedViews.{under_subject}
use Rattle.world_views.specs.Requests.{next_subject, route_for}
use Rattle.world_routing.specs.World.{World}

-- A message as an account sees it, under the subject that it has there.
pub record View : Type 0 where
  pub account : List ℕ
  pub message : Message

abbrev pub view_of : List ℕ → List Token → Message → View
view_of account s m = record { account = account; message = under_subject s m }

-- a message with another reply, or with none, as an account sees it
abbrev pub view_with : List ℕ → List Token → Option (List Token) → Message → View
view_with account s reply m = record { account = account; message = record m { subject = s; reply = reply } }

-- a subscription is admitted where it is of the account and has the subject, may hear the publisher, and its session's
-- permissions let the message through
abbrev pub is_admitted : List Session → Session → View → Subscription → Bool
is_admitted zs publisher v sub = has_subject v.account v.message.subject sub && is_open_to zs publisher v.message.subject sub.conn sub.queue

-- the subscriptions that a message may be sent to in a view, oldest first: of those that stand there, by the sessions before
-- the message
abbrev pub admitted : List Session → World → Session → View → List Subscription
admitted zs w publisher v = filter (is_admitted zs publisher v) w.subscriptions

-- ---- deliveries

-- the deliveries of a view, oldest subscription first, each with what its session is to note. Who is chosen is so before
-- room is looked at.
abbrev pub deliveries : List Session → World → Session → View → ℕ → List Addressed
deliveries zs w publisher v word = map (noted_for zs) (map (addressed_to v.message) (served word (admitted zs w publisher v)))

-- A view is delivered: what each of those that it is for met, and the world after it. Where the message enters, its session
-- notes its reply, if the user may answer. Each subscription that the message has entered for counts it, and ends where
-- that was the last that it was to receive.
abbrev pub routed : List Session → World → Session → View → ℕ → List Item × World
routed zs w publisher v word = let after = delivered w.moment (deliveries zs w publisher v word) w.sessions in
    (after.1, record w { sessions = after.0; subscriptions = unended (map (counted after.1) w.subscriptions) })

-- ---- requests and responses (docs/GUARANTEE.md, "Response routes")

-- A request that an account may see, which wants a response on this reply. Where nobody may be sent it, nothing comes of it. Where
-- the exporter has as many routes as it may have, the row is reported. Else a route is opened for its response, and the request
-- is seen with the route's subject in place of its reply.
abbrev pub requested_by : Bool → Bool → List Session → World → Session → Message → ℕ → List ℕ → List Token → Row → List Token → List Item × World
requested_by true full zs w publisher m word account s row reply = ([], w)
requested_by false true zs w publisher m word account s row reply = (RouteFull row ∷ [], w)
requested_by false false zs w publisher m word account s row reply =
    routed zs (record w { routes = opened account (route_for w.policy row reply word w.moment) w.routes }) publisher
    (view_with account s (Some (next_subject word (exporter_of account w.routes))) m) word

-- A request that wants no response is seen as it was published.
abbrev pub requested : List Session → World → Session → Message → ℕ → List ℕ → List Token → Row → Option (List Token) → List Item × World
requested zs w publisher m word account s row None = routed zs w publisher (view_of account s m) word
requested zs w publisher m word account s row (Some reply) =
    requested_by (is_nil (admitted zs w publisher (view_of account s m))) (is_full 1 w.moment (exporter_of account w.routes)) zs w publisher m word account s row reply

-- ---- views

-- What a message gives in an account, by the way on which it comes there. A response has no reply.
abbrev pub in_account : List Session → World → Session → Message → ℕ → List ℕ → List Token → Way → List Item × World
in_account zs w publisher m word account s Own = routed zs w publisher (view_of account s m) word
in_account zs w publisher m word account s (Stream row) = routed zs w publisher (view_of account s m) word
in_account zs w publisher m word account s (Service row) = requested zs w publisher m word account s row m.reply
in_account zs w publisher m word account s (Response row) = routed zs w publisher (view_with account s None m) word

-- What a view gives: the message to those that it is for there; or the row that it doesn't cross is reported.
abbrev pub in_view : List Session → World → Session → Message → ℕ → ViewItem → List Item × World
in_view zs w publisher m word (At account s way) = in_account zs w publisher m word account s way
in_view zs w publisher m word (TooLong row) = (MapTooLong row ∷ [], w)

-- The views of a message one after the other: what ended in one stands no more in the next, rooms are those that are left, and
-- routes those that stand then. Who may be sent it, and what is noted, goes by the sessions before the message.
abbrev pub in_views : List Session → World → Session → Message → ℕ → List ViewItem → List Item × World
in_views zs w publisher m word [] = ([], w)
in_views zs w publisher m word (v ∷ vs) =
    let first = in_view zs w publisher m word v in
    let rest = in_views zs first.1 publisher m word vs in
    (first.0 ++ rest.0, rest.1)
