-- What refusals leave, and what stands after a reload (docs/GUARANTEE.md, "Laws of routing").
use Rattle.std.specs.Prelude.{◌≡◌, ◌==◌, ℕ, List, true, false, All}
use Rattle.std.specs.List.{list_any}
use Rattle.policy_doc.specs.declared.document.PolicyDoc.{PolicyDoc}
use Rattle.events.specs.declared.event.Event.{Event}
use Rattle.events.specs.declared.event.Command.TheVariants.{Reload}
use Rattle.events.specs.declared.answer.Entry.{Entry}
use Rattle.events.specs.declared.answer.Removed.{Removed}
use Rattle.events.specs.declared.answer.Outcome.TheVariants.{Reloaded}
use Rattle.events.specs.declared.refusal.HubRefusal.{HubRefusal}
use Rattle.world_sessions.specs.deliveries.Sessions.{session_of}
use Rattle.world_subscriptions.specs.Subscription.{Subscription}
use Rattle.hub.specs.Sound.{user_behind, may_subscribe}
use Rattle.hub.specs.History.{State}
use Rattle.hub.specs.Guarantee.{IsRouted, IsRefused}

-- A refused step leaves state and event as they were.
abbrev pub RefusedChangesNothing : Type 0
RefusedChangesNothing = (s : State) (e : Event) (refused : Event × HubRefusal) (after : State) → IsRefused s e refused after → (refused.0 ≡ e) × (after ≡ s)

-- a subscription that its session's user may have by the policy, of a session that isn't among those that have gone
pub record MayStand (doc : PolicyDoc) (gone : List ℕ) (after : State) (sub : Subscription) : Type 0 where
  pub allowed : may_subscribe (user_behind doc (session_of after.world.sessions sub.conn)) sub.subject sub.queue ≡ true
  pub stays : list_any (λ (n : ℕ). n == sub.conn) gone ≡ false

-- After a reload no subscription stands that the new policy refuses, and none of a session that it has ended.
abbrev pub ReloadLeavesNoneRefused : Type 0
ReloadLeavesNoneRefused =
    (s : State) (e : Event) (a : Entry) (after : State) → IsRouted s e a after → (doc : PolicyDoc) (gone : List ℕ) (removed : List Removed) →
    e.what ≡ Reload doc → a.outcome ≡ Reloaded gone removed → All (MayStand doc gone after) after.world.subscriptions
