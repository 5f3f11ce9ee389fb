-- What a seat knows of an event that was entered for it under the lock (docs/GUARANTEE.md, "Threads").
use Rattle.std.specs.Prelude.{◌≡◌, ◌⊎◌, ◌+◌, ◌≤◌, ◌++◌, ◌∷◌, [], ℕ, List, Result, Ok, Err, IfOk, OnErr}
use Rattle.events.specs.declared.event.Event.{Event}
use Rattle.events.specs.declared.answer.Entry.{Entry}
use Rattle.events.specs.declared.refusal.HubRefusal.{HubRefusal}
use Rattle.events.specs.declared.refusal.HubRefusal.TheVariants.{NoMemory}
use Rattle.events.specs.declared.refusal.PublishRefusal.{PublishRefusal}
use Rattle.events.specs.declared.refusal.PublishRefusal.TheVariants.{By}
use Rattle.events.specs.Offers.{IsOffered}
use Rattle.hub.specs.Guarantee.{IsRouted, KeepsGuarantee}
use Rattle.hub.specs.History.{State, IsStep}
use Rattle.shared_waits.specs.receipts.Receipts.{Receipt}
use Rattle.shared_waits.specs.runs.Runs.{Came}
use Rattle.shared_waits.specs.Waiting.{Waiting}
use Rattle.shared_hub.specs.declared.desk.told.Told.{Told}
use Rattle.shared_hub.specs.desk.Entering.{IsHub, IsEntered}
use Rattle.shared_hub.specs.desk.Publishing.{Inside, IsPublished}
use Rattle.shared_hub.specs.desk.Waits.{waiting_in, freed_of, rest_of, IsSettled}

-- What a seat knows of an answered event: its entry has the event, it is one more of the seat's, and since the run opened
-- at least as many entries were made as the seat has.
abbrev pub IsCounted : ℕ → Event → ℕ → Entry → ℕ → Type 0
IsCounted opening e before a after = (a.event ≡ e) × (after ≡ before + 1) × (opening + after ≤ a.number)

-- An answer or a refusal is that of a step of some hub, which keeps the guarantee, so nobody makes one up.
pub record IsSteps (e : Event) (r : Result Entry (Event × HubRefusal)) : Type 0 where
  pub before : State
  pub after : State
  pub hub : IsHub before
  pub step : IsStep before e r after
  pub guarantee : KeepsGuarantee before e r after

-- An event that a seat has submitted without asking for a receipt: with an answer it is counted; a refusal hands it back,
-- and the seat is as before.
abbrev pub IsAnswered : ℕ → ℕ → Event → Result Entry (Event × HubRefusal) → ℕ → Type 0
IsAnswered opening before e (Ok a) after = IsCounted opening e before a after × IsSteps e (Ok a)
IsAnswered opening before e (Err refused) after = (refused.0 ≡ e) × (after ≡ before) × IsSteps e (Err refused)

-- What a seat is told of an event that is no message: who is let on by it, and how many deliveries a Take leaves, by the hub and
-- the waits of some moment, at which the step was made. Before a Take its connection's socket took nothing for so many
-- milliseconds. A refusal lets nobody on.
pub record IsToldOfStep (refused : ℕ) (e : Event) (r : Result Entry (Event × HubRefusal)) (old new : Told) : Type 0 where
  pub before : State
  pub after : State
  pub waits : Waiting
  pub left : Waiting
  pub hub : IsHub before
  pub step : IsStep before e r after
  pub settled : IfOk r (λ a. IsSettled (waiting_in after.world) refused a.event.now a.event.what a.outcome waits left)
  pub freed : IfOk r (λ a. new.freed.items ≡ old.freed.items ++ freed_of (waiting_in after.world) a.event.what a.outcome waits)
  pub rest : IfOk r (λ a. new.rest ≡ rest_of (waiting_in after.world) a.event.what)
  pub same : OnErr r (left ≡ waits)
  pub none : OnErr r (new.freed.items ≡ old.freed.items)
  pub until : new.until ≡ old.until

-- one list is another with something behind it
abbrev pub IsLonger : List ℕ → List ℕ → Type 0
IsLonger short long = (more : List ℕ) × (long ≡ short ++ more)

-- what came of a message's event that was not held back
abbrev pub came : Result Entry (Event × HubRefusal) → Came
came (Ok entry) = Ok entry
came (Err (back, refusal)) = Err (back, By refusal)

-- An answer or a refusal is what `Desk::step_if` tells of the event, by the hub, the waits and the patience of some moment: so no
-- message enters past them.
abbrev pub IsFromPublish : ℕ → Event → Result Entry (Event × HubRefusal) → Type 0
IsFromPublish opening e r = (x : Inside ℕ) × ((y : Inside ℕ) × IsPublished (λ count. count) opening x e (came r) y)

-- A message's event that a seat has offered and that was not held back: it was submitted, and `Desk::step_if` has told what came of it.
abbrev pub IsPostedBy : ℕ → ℕ → Event → Result Entry (Event × HubRefusal) → ℕ → Type 0
IsPostedBy opening before e r after = IsAnswered opening before e r after × IsFromPublish opening e r

-- A message's event that a seat has offered: it was posted, or it is held back, and the seat is as before.
abbrev pub IsOfferedBy : ℕ → ℕ → Event → Result Entry (Event × PublishRefusal) → ℕ → Type 0
IsOfferedBy opening = IsOffered (IsPostedBy opening) (λ before after. after ≡ before)

-- What a seat is told of a message's event that it has offered: what `Desk::step_if` tells of it by the hub, the waits and the
-- patience of some moment. So an event that is held back has a receiver that holds it back then.
pub record IsToldOfOffer (opening before : ℕ) (e : Event) (r : Came) (after : ℕ) (told : Told) : Type 0 where
  pub had : Inside ℕ
  pub has : Inside ℕ
  pub published : IsPublished (λ count. count) opening had e r has
  pub old : had.seat ≡ before
  pub new : has.seat ≡ after
  pub tells : has.told ≡ told

-- a seat's count, and what it was told of the message that it offered last
pub record Telling : Type 0 where
  pub count : ℕ
  pub told : Told

abbrev pub telling : ℕ → Told → Telling
telling count told = record { count = count; told = told }

-- A receipt has the entry of a step of some hub, which keeps the guarantee, and the policy in force after that step. The step
-- refuses what is refused, or memory for the receipt lacks.
pub record IsReceived (e : Event) (r : Result Receipt (Event × HubRefusal)) : Type 0 where
  pub before : State
  pub after : State
  pub hub : IsHub before
  pub entered : IsEntered before e r after
  pub guarantee : IfOk r (λ receipt. IsRouted before e receipt.entry after)

-- An event that a seat has submitted: with a receipt it is counted; a refusal hands it back, and the seat is as before.
abbrev pub IsSubmitted : ℕ → ℕ → Event → Result Receipt (Event × HubRefusal) → ℕ → Type 0
IsSubmitted opening before e (Ok r) after = IsCounted opening e before r.entry after × IsReceived e (Ok r)
IsSubmitted opening before e (Err refused) after = (refused.0 ≡ e) × (after ≡ before) × IsReceived e (Err refused)

-- What a port keeps: the seat's count, how often the seat has handed the history out, and the receipts of what was answered,
-- oldest first.
pub record Kept : Type 0 where
  pub count : ℕ
  pub rotations : ℕ
  pub receipts : List Receipt

abbrev pub kept : ℕ → ℕ → List Receipt → Kept
kept count rotations receipts = record { count = count; rotations = rotations; receipts = receipts }

-- An event that a port has submitted. With an answer, one more receipt is kept behind the others, and has that answer. The seat
-- refuses what is refused, or memory for one more receipt lacks.
abbrev pub IsKept : ℕ → Kept → Event → Result Entry (Event × HubRefusal) → Kept → Type 0
IsKept opening before e (Ok a) after =
    IsCounted opening e before.count a after.count × (after.rotations ≡ before.rotations)
    × ((r : Receipt) × (r.entry ≡ a) × (after.receipts ≡ before.receipts ++ r ∷ []) × IsReceived e (Ok r))
IsKept opening before e (Err refused) after = (after ≡ before) × ((refused.1 ≡ NoMemory) ⊎ IsReceived e (Err refused))
