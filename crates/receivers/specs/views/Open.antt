-- Who may be sent a message (docs/GUARANTEE.md, "Delivery").
use Rattle.std.specs.Prelude.{◌&&◌, ◌||◌, ◌==◌, ℕ, List, Bool, false, Option, Some, None, filter, not}
use Rattle.subjects.specs.Subject.{Token}
use Rattle.permissions.specs.Verdicts.{delivery_verdict, is_allowed}
use Rattle.world_sessions.specs.deliveries.Sessions.{session_of}
use Rattle.world_sessions.specs.declared.deliveries.session.Session.{Session}
use Rattle.world_subscriptions.specs.Subscriptions.{has_subject}
use Rattle.world_rows.specs.declared.subscription.Subscription.{Subscription}

-- the permissions of a session let the subject through, to a subscription with this queue name or with none
abbrev pub lets_through : List Token → Option (List Token) → Option Session → Bool
lets_through s queue None = false
lets_through s queue (Some z) = is_allowed (delivery_verdict z.user.rules s queue)

-- a session without echo isn't sent its own messages
abbrev pub may_hear : Session → ℕ → Bool
may_hear publisher conn = publisher.echo || not (conn == publisher.conn)

-- whether a connection may be sent a message of the publisher on the subject, for a subscription with this queue name or
-- with none
abbrev pub is_open_to : List Session → Session → List Token → ℕ → Option (List Token) → Bool
is_open_to zs publisher s conn queue = may_hear publisher conn && lets_through s queue (session_of zs conn)

-- the same of a subscription, by its connection and its queue name
abbrev pub is_open : List Session → Session → List Token → Subscription → Bool
is_open zs publisher s sub = is_open_to zs publisher s sub.conn sub.queue

-- the subscriptions of an account that have the subject and may be sent the message, oldest first
abbrev pub open_among : List Session → List Subscription → Session → List ℕ → List Token → List Subscription
open_among zs subs publisher account s = filter (λ sub. has_subject account s sub && is_open zs publisher s sub) subs
