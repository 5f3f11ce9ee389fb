-- Which subscriptions still stand behind deliveries of the same message, before any of these is counted (docs/GUARANTEE.md,
-- "Views").
use Rattle.std.specs.Prelude.{◌&&◌, ◌==◌, ◌-◌, ℕ, List, [], ◌∷◌, Bool, true, false, not, filter, map, nat_lt, suc, zero, if◌then◌else◌}
use Rattle.subjects.specs.Subject.{Token}
use Rattle.events.specs.Messages.{Message}
use Rattle.events.specs.declared.answer.Addressed.{Addressed}
use Rattle.world_sessions.specs.deliveries.Sessions.{session_of}
use Rattle.world_sessions.specs.deliveries.Delivered.{room_in}
use Rattle.world_sessions.specs.declared.deliveries.session.Session.{Session}
use Rattle.world_subscriptions.specs.Addressing.{addressed_to}
use Rattle.world_subscriptions.specs.Changes.{bumped}
use Rattle.world_subscriptions.specs.Limit.{has_ended}
use Rattle.world_subscriptions.specs.Subscriptions.{has_subject}
use Rattle.world_rows.specs.declared.subscription.Subscription.{Subscription}
use Rattle.world_subscriptions.specs.groups.Served.{served}
use Rattle.receivers.specs.views.Open.{is_open}

-- how often a message enters for an id of a connection with so much room: of the deliveries for the connection the first ones
-- enter, as many as there is room for
abbrev pub times_entering : ℕ → ℕ → ℕ → List Addressed → ℕ
times_entering conn id room [] = 0
times_entering conn id room (a ∷ all) =
    if (a.conn == conn) && nat_lt 0 room then (if a.id == id then suc (times_entering conn id (room - 1) all) else times_entering conn id (room - 1) all)
    else times_entering conn id room all

-- a subscription that has counted so many messages more
abbrev pub counted_more : ℕ → Subscription → Subscription
counted_more zero sub = sub
counted_more (suc n) sub = counted_more n (bumped sub)

-- whether a subscription still stands behind these deliveries
abbrev pub stands_behind : List Session → List Addressed → Subscription → Bool
stands_behind zs before sub = not (has_ended (counted_more (times_entering sub.conn sub.id (room_in (session_of zs sub.conn)) before) sub))

-- the subscriptions of an account that have the subject, may be sent the message, and still stand, oldest first
abbrev pub standing_among : List Session → List Subscription → List Addressed → Session → List ℕ → List Token → List Subscription
standing_among zs subs before publisher account s =
    filter (λ sub. has_subject account s sub && (is_open zs publisher s sub && stands_behind zs before sub)) subs

-- the deliveries of a message, as it is seen in an account, to those that it is for there, behind others of the same message
abbrev pub addressed_behind_in : List Session → List Subscription → List Addressed → Session → Message → ℕ → List ℕ → List Addressed
addressed_behind_in zs subs before publisher seen word account =
    map (addressed_to seen) (served word (standing_among zs subs before publisher account seen.subject))

abbrev pub is_nil : {X : Type 0} → List X → Bool
is_nil [] = true
is_nil (x ∷ xs) = false

-- nobody of an account may be sent a message on this subject behind them
abbrev pub is_for_nobody : List Session → List Subscription → List Addressed → Session → List ℕ → List Token → Bool
is_for_nobody zs subs before publisher account s = is_nil (standing_among zs subs before publisher account s)
