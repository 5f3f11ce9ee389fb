-- Messages of one connection that are offered to a port one after the other (docs/GUARANTEE.md, "A connection").
use Rattle.std.specs.Prelude.{◌≡◌, ◌⊎◌, ℕ, Bool, true, false, List, [], ◌∷◌, Result, Ok, Err}
use Rattle.events.specs.Messages.{Message}
use Rattle.events.specs.Offers.{IsOffered}
use Rattle.events.specs.declared.event.Event.{Event}
use Rattle.events.specs.declared.event.Command.TheVariants as command
use Rattle.events.specs.declared.answer.Entry.{Entry}
use Rattle.events.specs.declared.answer.Outcome.{Outcome}
use Rattle.events.specs.declared.answer.Outcome.TheVariants as outcome
use Rattle.events.specs.declared.refusal.HubRefusal.{HubRefusal}
use Rattle.events.specs.declared.run.RunEnd.{RunEnd}
use Rattle.events.specs.declared.run.RunEnd.TheVariants as run

-- a message's event
abbrev pub post : ℕ → ℕ → Message → ℕ → Event
post conn now message word = record { now = now; what = command.Pub conn message word }

abbrev pub was_published : Outcome → Bool
was_published (outcome.Published _ _) = true
was_published _ = false

-- what ended a run at an event with this word: its answer, or why it was not entered
abbrev pub EndsRun : {P : Type 0} → (P → Event → Result Entry (Event × HubRefusal) → P → Type 0) → (P → P → Type 0) → P → Event → ℕ → RunEnd → P → Type 0
EndsRun posts holds p e word run.Published p' = ⊥
EndsRun posts holds p e word (run.Answered entry) p' = posts p e (Ok entry) p'
EndsRun posts holds p e word (run.Stopped drawn refusal) p' = (drawn ≡ word) × ((back : Event) × IsOffered posts holds p e (Err (back, refusal)) p')

-- A run: each message draws its word and is offered, once, in order, while those before it were published. Those behind the
-- one that ended it are left, and have drawn nothing.
unfoldable pub IsPosted : {P W : Type 0} → (P → Event → Result Entry (Event × HubRefusal) → P → Type 0) → (P → P → Type 0) → (W → ℕ → W → Type 0)
    → ℕ → ℕ → List Message → P → W → RunEnd → List Message → P → W → Type 0
IsPosted posts holds draws conn now [] p w end left p' w' = (end ≡ run.Published) × (left ≡ []) × (p' ≡ p) × (w' ≡ w)
IsPosted {P} {W} posts holds draws conn now (m ∷ ms) p w end left p' w' =
    (word : ℕ) × (next : W) × draws w word next
    × (((entry : Entry) × (mid : P) × posts p (post conn now m word) (Ok entry) mid × (was_published entry.outcome ≡ true)
    × IsPosted posts holds draws conn now ms mid next end left p' w')
    ⊎ (EndsRun posts holds p (post conn now m word) word end p' × (left ≡ ms) × (w' ≡ next)))
