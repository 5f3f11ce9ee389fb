-- How a run goes on.
use Rattle.std.proofs.Common.{◌∷◌, ◌++◌, [], List, Result, refl, sym, subst}
use Rattle.std.proofs.lemmas.List.{append_assoc, append-nil}
use Rattle.events.specs.declared.event.Event.{Event}
use Rattle.events.specs.declared.answer.Entry.{Entry}
use Rattle.events.specs.declared.refusal.HubRefusal.{HubRefusal}
use Rattle.hub.specs.History.{State}
use Rattle.hub.specs.Run.{EachStep}

-- what a step is
abbrev pub Relation : Type 1
Relation = State → Event → Result Entry (Event × HubRefusal) → State → Type 0

-- what is left, once it has run, completes the whole
abbrev pub Completes : Relation → State → List Event → List (Result Entry (Event × HubRefusal)) → State → List Event → Type 0
Completes Step old all answers now left =
    (more : List (Result Entry (Event × HubRefusal))) (after : State) → EachStep Step now left more after → EachStep Step old all (answers ++ more) after

-- one more step
pub Completes-step : (Step : Relation) (old : State) (all : List Event) (answers : List (Result Entry (Event × HubRefusal))) (now : State) (e : Event) (left : List Event) (r : Result Entry (Event × HubRefusal)) (next : State) →
    Completes Step old all answers now (e ∷ left) → Step now e r next → Completes Step old all (answers ++ r ∷ []) next left
Completes-step Step old all answers now e left r next done step more after run =
    let P = λ (rs : List (Result Entry (Event × HubRefusal))). EachStep Step old all rs after in
    subst P (sym (append_assoc answers (r ∷ []) more)) (done (r ∷ more) after (next, step, run))

-- nothing is left
pub Completes-end : (Step : Relation) (old : State) (all : List Event) (answers : List (Result Entry (Event × HubRefusal))) (now : State) →
    Completes Step old all answers now [] → EachStep Step old all answers now
Completes-end Step old all answers now done =
    let P = λ (rs : List (Result Entry (Event × HubRefusal))). EachStep Step old all rs now in
    subst P (append-nil answers) (done [] now refl)
