-- A run: the steps of a list of events, in order (docs/GUARANTEE.md, "Runs").
use Rattle.std.specs.Prelude.{◌≡◌, List, [], ◌∷◌, Result}
use Rattle.events.specs.declared.event.Event.{Event}
use Rattle.events.specs.declared.answer.Entry.{Entry}
use Rattle.events.specs.declared.refusal.HubRefusal.{HubRefusal}
use Rattle.hub.specs.History.{State, IsStep}

-- each event has an answer or a refusal, and with the states before and after it they are in the relation
abbrev pub EachStep : (State → Event → Result Entry (Event × HubRefusal) → State → Type 0) → State → List Event → List (Result Entry (Event × HubRefusal)) → State → Type 0
EachStep Step s [] [] after = after ≡ s
EachStep Step s [] (r ∷ rs) after = ⊥
EachStep Step s (e ∷ es) [] after = ⊥
EachStep Step s (e ∷ es) (r ∷ rs) after = (next : State) × Step s e r next × EachStep Step next es rs after

-- each event has the answer or the refusal of its step
abbrev pub IsRun : State → List Event → List (Result Entry (Event × HubRefusal)) → State → Type 0
IsRun = EachStep IsStep
