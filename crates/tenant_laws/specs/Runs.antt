-- Tenant isolation: what a closed set of accounts meets is the same, whatever all others do (docs/GUARANTEE.md, "Tenants").
use Rattle.std.specs.Prelude.{◌≡◌, ◌≢◌, ◌∷◌, ℕ, Bool, true, false, List, [], Result, Ok, Err, All, if◌then◌else◌, map, max}
use Rattle.policy_doc.specs.declared.document.PolicyDoc.{PolicyDoc}
use Rattle.policy_sets.specs.Sets.{IsClosed}
use Rattle.events.specs.declared.answer.Delivery.{Delivery}
use Rattle.events.specs.declared.answer.Outcome.{Outcome}
use Rattle.events.specs.declared.event.Event.{Event}
use Rattle.events.specs.declared.refusal.HubRefusal.{HubRefusal}
use Rattle.events.specs.declared.refusal.HubRefusal.TheVariants.{SessionLimit}
use Rattle.world_sessions.specs.declared.deliveries.session.Session.{Session}
use Rattle.world_subscriptions.specs.Subscription.{Subscription}
use Rattle.world.specs.World.{World, opening_world}
use Rattle.world.specs.Transition.{transition}
use Rattle.hub.specs.Sound.{IsSound}
use Rattle.hub_laws.specs.grants.Dropping.{answer_in, world_after}
use Rattle.tenant_laws.specs.parts.Part.{part_of}
use Rattle.tenant_laws.specs.worlds.Tenants.{Tenants, sessions_of, subscriptions_of, unnumbered}
use Rattle.tenant_laws.specs.worlds.Alike.{IsOwnSession}
use Rattle.tenant_laws.specs.worlds.Answers.{part_of_command, seen_by}
use Rattle.tenant_laws.specs.worlds.Laws.{IsMarked, KeepsApart}

-- ---- what tenants meet

-- what waits for a connection, and whether a delivery was missed
pub record Waiting : Type 0 where
  pub conn : ℕ
  pub deliveries : List Delivery
  pub missed : Bool

abbrev pub waiting_for : Session → Waiting
waiting_for z = record { conn = z.conn; deliveries = z.outbox.waiting; missed = z.missed }

-- What tenants meet at an event of theirs: its answer, and what waits for them and which subscriptions they have after it, numbers
-- aside.
pub record Meeting : Type 0 where
  pub answer : Result Outcome HubRefusal
  pub waiting : List Waiting
  pub standing : List Subscription

abbrev pub answer_seen : Tenants → Result Outcome HubRefusal → Result Outcome HubRefusal
answer_seen t (Ok o) = Ok (seen_by t o)
answer_seen t (Err refusal) = Err refusal

abbrev pub meeting : Tenants → Result Outcome HubRefusal → World → Meeting
meeting t answer w = record { answer = answer_seen t answer; waiting = map waiting_for (sessions_of t w.sessions); standing = map unnumbered (subscriptions_of t w.subscriptions) }

-- ---- runs

-- an event, and whether the tenants count it as theirs
pub record Happening : Type 0 where
  pub event : Event
  pub own : Bool

abbrev pub next_world : World → Happening → World
next_world w h = world_after w (transition w h.event)

-- what the tenants meet at their events, one after the other
unfoldable pub met : Tenants → World → List Happening → List Meeting
met t w [] = []
met t w (h ∷ hs) = if h.own then meeting t (answer_in (transition w h.event)) (next_world w h) ∷ met t (next_world w h) hs else met t (next_world w h) hs

-- their events, each at the moment that the clock has then, and a reload by their part of the policy
unfoldable pub asked : Tenants → World → List Happening → List Event
asked t w [] = []
asked t w (h ∷ hs) = if h.own then record { now = max w.moment h.event.now; what = part_of_command t h.event.what } ∷ asked t (next_world w h) hs else asked t (next_world w h) hs

-- ---- runs in which the tenants and the others are apart

-- An event leaves the tenants and the others apart.
pub record LeavesApart (t : Tenants) (w : World) (h : Happening) : Type 0 where
  -- no import row of the policy in force has one end in the tenants' accounts and one outside
  pub closed : IsClosed w.policy t.accounts
  -- the event is of a connection of theirs exactly where it counts as theirs; a reload counts where it changes their part
  pub marked : IsMarked t w.policy h.own h.event.what
  -- nobody logs in across the border, and a new policy has no import row across it
  pub apart : KeepsApart t w.policy h.event.what
  -- no Connect of theirs is refused because too many sessions stand
  pub room : h.own ≡ true → transition w h.event ≢ Err SessionLimit

-- so does each of a run, through worlds as hubs have them
unfoldable pub LeaveApart : Tenants → World → List Happening → Type 0
LeaveApart t w [] = IsSound w
LeaveApart t w (h ∷ hs) = IsSound w × LeavesApart t w h × LeaveApart t (next_world w h) hs

-- ---- the laws

-- One event of others leaves what waits for the tenants, and their subscriptions, as they were.
abbrev pub OthersAreUnseen : Type 0
OthersAreUnseen = (t : Tenants) (w : World) (h : Happening) → IsSound w → LeavesApart t w h → All (IsOwnSession t) w.sessions → h.own ≡ false →
    (map waiting_for (sessions_of t (next_world w h).sessions) ≡ map waiting_for (sessions_of t w.sessions))
    × (map unnumbered (subscriptions_of t (next_world w h).subscriptions) ≡ map unnumbered (subscriptions_of t w.subscriptions))

-- Two runs, each from an opening, under policies of which the tenants have the same part. The tenants do the same in both, at the same
-- moments. Then they meet the same, whatever all others do.
abbrev pub TenantsAreIsolated : Type 0
TenantsAreIsolated = (t : Tenants) (capacity : ℕ) (one other : PolicyDoc) (es fs : List Happening) → part_of t.accounts one ≡ part_of t.accounts other →
    LeaveApart t (opening_world one capacity) es → LeaveApart t (opening_world other capacity) fs →
    asked t (opening_world one capacity) es ≡ asked t (opening_world other capacity) fs →
    met t (opening_world one capacity) es ≡ met t (opening_world other capacity) fs
