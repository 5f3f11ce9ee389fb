-- The receivers of a message: of the subscriptions that may be sent it those that queue groups leave (docs/GUARANTEE.md,
-- "Delivery").
use Rattle.std.specs.Prelude.{ℕ, List, None, map}
use Rattle.events.specs.Messages.{Message}
use Rattle.events.specs.declared.answer.Addressed.{Addressed}
use Rattle.world_subscriptions.specs.groups.Served.{served}
use Rattle.world_sessions.specs.declared.deliveries.session.Session.{Session}
use Rattle.world_subscriptions.specs.Addressing.{addressed_to}
use Rattle.world_rows.specs.declared.subscription.Subscription.{Subscription}
use Rattle.receivers.specs.views.Open.{open_among}
use Rattle.receivers.specs.declared.views.receiver.Receiver.{Receiver}

-- the deliveries of a message to those of the publisher's account that it is for, oldest subscription first
abbrev pub addressed_among : List Session → List Subscription → Session → Message → ℕ → List Addressed
addressed_among zs subs publisher m word = map (addressed_to m) (served word (open_among zs subs publisher publisher.user.account m.subject))

-- what a delivery needs of a subscription
abbrev pub receiver_of : Subscription → Receiver
receiver_of sub = record { id = sub.id; conn = sub.conn; sid = sub.sid }

-- the message on its way to a receiver
abbrev pub addressed_at : Message → Receiver → Addressed
addressed_at m r = record { id = r.id; conn = r.conn; delivery = record { message = m; sid = r.sid }; noted = None }
