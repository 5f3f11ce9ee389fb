-- A set of accounts with its connections, and what the tables hold of it (docs/GUARANTEE.md, "Tenants").
use Rattle.std.specs.Prelude.{ℕ, Bool, List, filter}
use Rattle.policy_doc.specs.Accounts.{Name}
use Rattle.world_sessions.specs.declared.deliveries.session.Session.{Session}
use Rattle.world_subscriptions.specs.Subscription.{Subscription}

pub record Tenants : Type 0 where
  pub accounts : Name → Bool
  -- the numbers of their connections
  pub connections : ℕ → Bool

-- a session, or a subscription, is of one of their connections
abbrev pub has_session : Tenants → Session → Bool
has_session t z = t.connections z.conn

abbrev pub has_subscription : Tenants → Subscription → Bool
has_subscription t s = t.connections s.conn

abbrev pub sessions_of : Tenants → List Session → List Session
sessions_of t zs = filter (has_session t) zs

abbrev pub subscriptions_of : Tenants → List Subscription → List Subscription
subscriptions_of t subs = filter (has_subscription t) subs

-- a subscription without its number, which tells how many events the server had before
abbrev pub unnumbered : Subscription → Subscription
unnumbered s = record s { id = 0 }
