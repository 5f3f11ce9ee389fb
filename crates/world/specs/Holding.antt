-- A message that is held back: a step that would tell of somebody's full outbox, or add to more than may wait for somebody,
-- and isn't made (docs/GUARANTEE.md, "A message that is held back").
use Rattle.std.specs.Prelude.{◌≡◌, ◌≢◌, ℕ, List, [], Result, Ok, Err}
use Rattle.events.specs.declared.event.Event.{Event}
use Rattle.events.specs.declared.answer.Entry.{Entry}
use Rattle.events.specs.declared.answer.Outcome.{Outcome}
use Rattle.events.specs.declared.refusal.HubRefusal.{HubRefusal}
use Rattle.events.specs.declared.refusal.PublishRefusal.{PublishRefusal}
use Rattle.events.specs.declared.refusal.PublishRefusal.TheVariants.{By, Held}
use Rattle.world_sessions.specs.declared.deliveries.session.Session.{Session}
use Rattle.world_sessions.specs.leniency.Held.{Terms, held_among}
use Rattle.world_routing.specs.World.{World}
use Rattle.world.specs.Transition.{moved, transition, IsMoved, IsApplied}
use Rattle.world.specs.Changes.{items_in}

-- the connections that hold back an event with this outcome, once for each item
abbrev pub held_in : Terms → List Session → Outcome → List ℕ
held_in t zs o = held_among t zs (items_in o)

-- those that hold back an event that comes to this; what is refused is not held back
abbrev pub holders : Terms → List Session → Result (Outcome × World) HubRefusal → List ℕ
holders t zs (Ok r) = held_in t zs r.0
holders t zs (Err refusal) = []

-- What a step answered and left that is made unless somebody holds the event back: as a step, and nobody held it back; or
-- nothing has changed, and all who hold it back are told.
abbrev pub IsAppliedIf : Terms → World → Event → Result (Entry × Entry) PublishRefusal → List ℕ → World → Type 0
IsAppliedIf t w e (Ok both) held after = IsApplied w e (Ok both) after × (held_in t w.sessions both.0.outcome ≡ [])
IsAppliedIf t w e (Err (By refusal)) held after = IsApplied w e (Err refusal) after
IsAppliedIf t w e (Err Held) held after = (after ≡ w) × (held ≢ []) × (held ≡ holders t w.sessions (transition w e))

-- The same before the number has risen.
abbrev pub IsMovedIf : Terms → World → Event → Result (Entry × Entry) PublishRefusal → List ℕ → World → Type 0
IsMovedIf t w e (Ok both) held after = IsMoved w e (Ok both) after × (held_in t w.sessions both.0.outcome ≡ [])
IsMovedIf t w e (Err (By refusal)) held after = IsMoved w e (Err refusal) after
IsMovedIf t w e (Err Held) held after = (after ≡ w) × (held ≢ []) × (held ≡ holders t w.sessions (moved w e.what))
