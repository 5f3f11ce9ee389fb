-- When a set of tenants can't tell its part of a world from a world in which it is alone.
use Rattle.std.specs.Prelude.{◌≡◌, ◌==◌, ◌≤◌, ℕ, true, false, List, filter, map, All}
use Rattle.policy_sets.specs.Sets.{IsClosed}
use Rattle.service_exporter.specs.Routes.{Exporter, Numbered}
use Rattle.service_routes.specs.Routes.{Name, kept, pruned}
use Rattle.service_routes.specs.service_rows.Rows.{renewed}
use Rattle.world_sessions.specs.declared.deliveries.session.Session.{Session}
use Rattle.world_sessions.specs.Renewal.{remaining}
use Rattle.world_subscriptions.specs.Limit.{has_ended}
use Rattle.world_subscriptions.specs.Subscription.{Subscription}
use Rattle.world_routing.specs.World.{World}
use Rattle.world.specs.Reload.{stands_on}
use Rattle.tenant_laws.specs.parts.Least.{exporters_on_least}
use Rattle.tenant_laws.specs.parts.Part.{exporters_of, part_of}
use Rattle.tenant_laws.specs.worlds.Tenants.{Tenants, sessions_of, subscriptions_of, unnumbered}

-- ---- subscriptions, numbers aside

-- a subscription of one world beside that of another
abbrev pub Pair : Type 0
Pair = Subscription × Subscription

abbrev pub first_of : Pair → Subscription
first_of a = a.0

abbrev pub second_of : Pair → Subscription
second_of a = a.1

abbrev pub IsSame : Pair → Type 0
IsSame a = unnumbered a.0 ≡ unnumbered a.1

-- two pairs have one number in the one world exactly where they have in the other
abbrev pub HaveOneId : Pair → Pair → Type 0
HaveOneId a b = (a.0.id == b.0.id) ≡ (a.1.id == b.1.id)

-- Subscriptions of the tenants are the same in two worlds with these last numbers, but for their own numbers.
pub record ArePaired (t : Tenants) (one other : ℕ) (xs ys : List Subscription) : Type 0 where
  pub pairs : List Pair
  pub first : map first_of pairs ≡ xs
  pub second : map second_of pairs ≡ ys
  pub same : All IsSame pairs
  pub ids : All (λ a. All (HaveOneId a) pairs) pairs
  pub within : All (λ (a : Pair). t.connections a.0.conn ≡ true) pairs
  pub given : All (λ (a : Pair). (a.0.id ≤ one) × (a.1.id ≤ other)) pairs

-- ---- worlds

-- The second world is what the first holds of the tenants.
pub record IsPartOf (t : Tenants) (w p : World) : Type 0 where
  pub capacity : p.capacity ≡ w.capacity
  pub policy : p.policy ≡ part_of t.accounts w.policy
  pub moment : p.moment ≡ w.moment
  pub sessions : p.sessions ≡ sessions_of t w.sessions
  pub subscriptions : ArePaired t w.number p.number (subscriptions_of t w.subscriptions) p.subscriptions
  -- of their exporters, with each route on the least row of its service
  pub routes : exporters_on_least p.policy p.routes ≡ exporters_of t.accounts (exporters_on_least w.policy w.routes)

-- a session or a subscription is of a connection of the tenants exactly where it is of an account of theirs
abbrev pub IsOwnSession : Tenants → Session → Type 0
IsOwnSession t z = t.connections z.conn ≡ t.accounts z.user.account

abbrev pub IsOwnSubscription : Tenants → Subscription → Type 0
IsOwnSubscription t s = t.connections s.conn ≡ t.accounts s.account

-- the routes of an exporter are for requests of the tenants exactly where the exporter is one of them
abbrev pub IsOwnExporter : Tenants → Name × Exporter → Type 0
IsOwnExporter t e = All (λ (r : Numbered). t.accounts r.1.row.importer ≡ t.accounts e.0) e.1.routes

-- In a world the tenants and the others are apart.
pub record AreApart (t : Tenants) (w : World) : Type 0 where
  pub closed : IsClosed w.policy t.accounts
  pub sessions : All (IsOwnSession t) w.sessions
  pub subscriptions : All (IsOwnSubscription t) w.subscriptions
  pub routes : All (IsOwnExporter t) w.routes
  -- no subscription of theirs has received all that it was to
  pub standing : All (λ s. has_ended s ≡ false) w.subscriptions

-- The policy in force would change nothing if it came into force again, but that each route moves to the least row of its service.
pub record IsUpheld (w : World) : Type 0 where
  pub sessions : remaining w.moment w.policy w.sessions ≡ w.sessions
  pub subscriptions : filter (stands_on w.policy w.sessions) w.subscriptions ≡ w.subscriptions
  pub routes : pruned w.moment (kept (renewed w.policy w.policy) w.routes) ≡ exporters_on_least w.policy w.routes
