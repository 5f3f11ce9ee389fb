-- A message addressed to subscriptions (docs/GUARANTEE.md, "Delivery").
use Rattle.std.specs.Prelude.{None}
use Rattle.events.specs.Messages.{Message}
use Rattle.events.specs.declared.answer.Delivery.{Delivery}
use Rattle.events.specs.declared.answer.Addressed.{Addressed}
use Rattle.world_rows.specs.declared.subscription.Subscription.{Subscription}

-- what a subscriber is sent, and where it goes
abbrev pub delivery_to : Message → Subscription → Delivery
delivery_to m sub = record { message = m; sid = sub.sid }

abbrev pub addressed_to : Message → Subscription → Addressed
addressed_to m sub = record { id = sub.id; conn = sub.conn; delivery = delivery_to m sub; noted = None }
