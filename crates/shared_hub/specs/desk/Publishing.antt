-- Messages that a seat offers while the lock is held (docs/GUARANTEE.md, "Threads").
use Rattle.std.specs.Prelude.{◌≡◌, ◌+◌, ◌≤◌, ℕ, List, IfOk, MatchResult}
use Rattle.events.specs.declared.event.Event.{Event}
use Rattle.events.specs.Offers.{IsOffered}
use Rattle.shared_waits.specs.runs.Runs.{Came}
use Rattle.hub.specs.History.{State}
use Rattle.hub.specs.Holding.{IsStepIf}
use Rattle.hub.specs.Guarantee.{KeepsGuarantee}
use Rattle.shared_waits.specs.Waiting.{Waiting}
use Rattle.shared_hub.specs.desk.Entering.{IsHub}
use Rattle.shared_hub.specs.desk.Bounds.{terms_at, size_of}
use Rattle.shared_hub.specs.desk.Waits.{waiting_in, IsOfferedTo, until_of, slow_of}
use Rattle.shared_hub.specs.declared.desk.told.Told.{Told}

-- what lies under the lock, the seat that offers, and what it is told: the hub, the waits, and who held the message back that
-- was offered last
pub record Inside (S : Type 0) : Type 0 where
  pub hub : State
  pub waits : Waiting
  pub held : List ℕ
  pub seat : S
  pub told : Told

abbrev pub inside : {S : Type 0} → State → Waiting → List ℕ → S → Told → Inside S
inside hub waits held seat told = record { hub = hub; waits = waits; held = held; seat = seat; told = told }

-- What `Desk::step_if` tells of an event: it is one step of a hub, which keeps the guarantee, or it is held back. With an
-- answer the seat has one more, and since the ledger was opened at least as many entries were made as the seat has.
pub record IsPublished {S : Type 0} (count : S → ℕ) (opening : ℕ) (x : Inside S) (e : Event) (r : Came) (y : Inside S) : Type 0 where
  pub hub : IsHub x.hub
  pub step : IsStepIf (terms_at x.waits x.hub e) x.hub e r y.held y.hub
  pub guarantee : IsOffered KeepsGuarantee (λ before after. after ≡ before) x.hub e r y.hub
  pub counted : MatchResult r (λ _. count y.seat ≡ count x.seat + 1) (λ _. count y.seat ≡ count x.seat)
  pub number : IfOk r (λ entry. opening + count y.seat ≤ entry.number)
  pub waits : IsOfferedTo (waiting_in x.hub.world) e r y.held x.waits y.waits
  pub until : y.told.until ≡ until_of e r y.held y.waits
  pub slow : y.told.slow ≡ slow_of e r y.held y.waits
  pub size : y.told.size ≡ size_of e.what
