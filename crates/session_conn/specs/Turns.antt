-- A frame's turn (docs/GUARANTEE.md, "A connection").
use Rattle.std.specs.Prelude.{◌≡◌, ◌⊎◌, ◌&&◌, ℕ, Bool, true, false, not, List, ◌++◌, Option, Some, None, Result, Ok, Err}
use Rattle.wire_read.specs.declared.frame.Frame.{Frame}
use Rattle.events.specs.declared.event.Event.{Event}
use Rattle.events.specs.declared.event.Command.{Command}
use Rattle.events.specs.declared.event.Command.TheVariants as command
use Rattle.events.specs.declared.answer.Entry.{Entry}
use Rattle.events.specs.declared.answer.Outcome.{Outcome}
use Rattle.events.specs.declared.answer.Outcome.TheVariants as outcome
use Rattle.events.specs.declared.refusal.HubRefusal.{HubRefusal}
use Rattle.events.specs.declared.refusal.HubRefusal.TheVariants as refusal
use Rattle.session_plan.specs.declared.stage.Stage.{Stage}
use Rattle.session_conn.specs.declared.output.Stall.{Stall}
use Rattle.session_conn.specs.declared.output.Stall.TheVariants as stall
use Rattle.session_plan.specs.declared.plan.Plan.{Plan}
use Rattle.session_plan.specs.declared.plan.Plan.TheVariants.{Tells, Asks, Publishes}
use Rattle.session_conn.specs.declared.turn.FrameTurn.{FrameTurn}
use Rattle.session_conn.specs.declared.turn.FrameTurn.TheVariants as turn
use Rattle.session_plan.specs.declared.stage.Stage.TheVariants as stage
use Rattle.session_plan.specs.Replies.{Told, told, told_text, reply_to}
use Rattle.session_plan.specs.Plans.{plan_of}

-- ---- what a port and the words do

-- an event, its answer or refusal, and the port before and after it
abbrev pub Step : Type 0 → Type 1
Step P = P → Event → Result Entry (Event × HubRefusal) → P → Type 0

-- what a port does with an event that is submitted, and with a message's event that is offered and not held back; and the port
-- before and after it held something back, so that nothing was submitted
pub record Steps (P : Type 0) : Type 1 where
  pub step : Step P
  pub post : Step P
  pub holds : P → P → Type 0

abbrev pub port_of : {P : Type 0} → Step P → Step P → (P → P → Type 0) → Steps P
port_of step post holds = record { step = step; post = post; holds = holds }

-- a word, and what it is drawn from before and after it
abbrev pub Draws : Type 0 → Type 1
Draws W = W → ℕ → W → Type 0

-- what came of an event
abbrev pub outcome_of : Result Entry HubRefusal → Result Outcome HubRefusal
outcome_of (Ok entry) = Ok entry.outcome
outcome_of (Err refusal) = Err refusal

-- a refused event is handed back, and of no more use
abbrev pub without_event : Result Entry (Event × HubRefusal) → Result Entry HubRefusal
without_event (Ok entry) = Ok entry
without_event (Err refused) = Err refused.1

-- an event was submitted, once, and this came of it
abbrev pub IsAnswered : {P : Type 0} → Step P → P → Event → Result Outcome HubRefusal → P → Type 0
IsAnswered step p e r p' = (a : Result Entry (Event × HubRefusal)) × step p e a p' × (r ≡ outcome_of (without_event a))

-- the word of a message: the one that it has drawn, or the next one
abbrev pub IsWord : {W : Type 0} → Draws W → W → Option ℕ → ℕ → W → Type 0
IsWord draws w (Some drawn) word w' = (word ≡ drawn) × (w' ≡ w)
IsWord draws w None word w' = draws w word w'

-- ---- what a turn comes to

-- the client is told something; or the frame stays, with its word if it has drawn one
pub data Turned : Type 0 where
  Goes : Told → Turned
  Stalls : Stall → Option ℕ → Turned

-- the same of what the code answers, where what is told is written behind what was written before
abbrev pub IsFrameTurned : (Turned → Type 0) → FrameTurn → List ℕ → List ℕ → Type 0
IsFrameTurned Is (turn.Goes s) before after = (text : List ℕ) × Is (Goes (told_text text s)) × (after ≡ before ++ text)
IsFrameTurned Is (turn.Stalls stall word) before after = Is (Stalls stall word) × (after ≡ before)

-- after an answer: want of memory and a full history keep the frame, and all else is told
abbrev pub turn_after : Stage → Stage → Frame → Option ℕ → Result Outcome HubRefusal → Turned
turn_after s accepted f word (Err refusal.NoMemory) = Stalls stall.Memory word
turn_after s accepted f word (Err refusal.HistoryFull) = Stalls stall.HistoryFull word
turn_after s accepted f word (Err refusal.NoSession) = Goes (reply_to s accepted f (Err refusal.NoSession))
turn_after s accepted f word (Err refusal.SessionTaken) = Goes (reply_to s accepted f (Err refusal.SessionTaken))
turn_after s accepted f word (Err refusal.SessionLimit) = Goes (reply_to s accepted f (Err refusal.SessionLimit))
turn_after s accepted f word (Ok o) = Goes (reply_to s accepted f (Ok o))

-- ---- an answer of which nothing is told

-- each accepted message of the client is answered
abbrev pub is_verbose : Stage → Bool
is_verbose (stage.Connected verbose _) = verbose
is_verbose stage.Fresh = false
is_verbose (stage.Closed _) = false

abbrev pub is_published : Result Outcome HubRefusal → Bool
is_published (Ok (outcome.Published _ _)) = true
is_published _ = false

-- a message is published, and its client asked for no answer
abbrev pub is_quiet : Stage → Result Outcome HubRefusal → Bool
is_quiet s r = not (is_verbose s) && is_published r

-- ---- a turn

abbrev pub event : ℕ → Command → Event
event now what = record { now = now; what = what }

-- A turn by its plan: nothing is asked, or one event is submitted. A message's event is offered, and it has its word then.
abbrev pub IsPlanned : {P W : Type 0} → Steps P → Draws W → ℕ → ℕ → Stage → Option ℕ → Frame → P → W → Turned → P → W → Plan → Type 0
IsPlanned steps draws now conn s word f p w t p' w' (Tells r) = (t ≡ Goes (told r)) × (p' ≡ p) × (w' ≡ w)
IsPlanned steps draws now conn s word f p w t p' w' (Asks what accepted) =
    (r : Result Outcome HubRefusal) × IsAnswered steps.step p (event now what) r p' × (t ≡ turn_after s accepted f word r) × (w' ≡ w)
IsPlanned steps draws now conn s word f p w t p' w' (Publishes message) =
    (r : Result Outcome HubRefusal) × (drawn : ℕ) × IsWord draws w word drawn w'
    × IsAnswered steps.post p (event now (command.Pub conn message drawn)) r p' × (t ≡ turn_after s s f (Some drawn) r)

-- the frame stays before anything was asked, since memory lacked
pub record IsUntouched {P W : Type 0} (word : Option ℕ) (p : P) (w : W) (t : Turned) (p' : P) (w' : W) : Type 0 where
  pub stalls : t ≡ Stalls stall.Memory word
  pub port : p' ≡ p
  pub words : w' ≡ w

-- A turn that is held back, by its plan: nothing is submitted, and the frame stays. A message has its word then. What asks
-- the hub for anything else isn't held back.
abbrev pub IsHeldBack : {P W : Type 0} → Steps P → Draws W → Option ℕ → P → W → Turned → P → W → Plan → Type 0
IsHeldBack steps draws word p w t p' w' (Tells r) = steps.holds p p' × (t ≡ Stalls stall.Held word) × (w' ≡ w)
IsHeldBack steps draws word p w t p' w' (Asks what accepted) = ⊥
IsHeldBack steps draws word p w t p' w' (Publishes message) =
    (drawn : ℕ) × IsWord draws w word drawn w' × steps.holds p p' × (t ≡ Stalls stall.Held (Some drawn))

-- a frame's turn at a stage
abbrev pub IsFrameTurn : {P W : Type 0} → Steps P → Draws W → ℕ → ℕ → Stage → Option ℕ → Frame → P → W → Turned → P → W → Type 0
IsFrameTurn steps draws now conn s word f p w t p' w' =
    IsUntouched word p w t p' w' ⊎ IsHeldBack steps draws word p w t p' w' (plan_of conn s f)
    ⊎ IsPlanned steps draws now conn s word f p w t p' w' (plan_of conn s f)
