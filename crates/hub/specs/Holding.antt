-- A step that isn't made where somebody holds its event back (docs/GUARANTEE.md, "A message that is held back").
use Rattle.std.specs.Prelude.{◌≡◌, ◌≢◌, ℕ, List, [], false, Result, Ok, Err}
use Rattle.events.specs.declared.event.Event.{Event}
use Rattle.events.specs.declared.answer.Entry.{Entry}
use Rattle.events.specs.declared.refusal.PublishRefusal.{PublishRefusal}
use Rattle.events.specs.declared.refusal.PublishRefusal.TheVariants.{By, Held}
use Rattle.world_sessions.specs.leniency.Held.{Terms}
use Rattle.world.specs.Transition.{transition}
use Rattle.world.specs.Holding.{held_in, holders}
use Rattle.hub.specs.History.{State, IsStep, is_history_full}

-- A step, and nobody held its event back; or a refusal, as of a step; or nothing has changed, the event is handed back, and
-- all who hold it back are told.
abbrev pub IsStepIf : Terms → State → Event → Result Entry (Event × PublishRefusal) → List ℕ → State → Type 0
IsStepIf t s e (Ok a) held after = IsStep s e (Ok a) after × (held_in t s.world.sessions a.outcome ≡ [])
IsStepIf t s e (Err (back, By refusal)) held after = IsStep s e (Err (back, refusal)) after
IsStepIf t s e (Err (back, Held)) held after =
    (back ≡ e) × (after ≡ s) × (is_history_full s ≡ false) × (held ≢ []) × (held ≡ holders t s.world.sessions (transition s.world e))
