-- Drains: what a Take gives, and its texts (NATS documentation, "Client Protocol", "MSG", "HMSG";
-- docs/PROTOCOL.md, "Deliveries").
use Rattle.std.specs.Prelude.{◌≡◌, ◌⊎◌, ℕ, Bool, true, false, List, [], ◌++◌, Option, Some, None, Result, Ok, Err}
use Rattle.wire_write.specs.Errors.{err_line}
use Rattle.wire_write.specs.declared.error.ServerError.TheVariants as error
use Rattle.events.specs.declared.event.Command.TheVariants as command
use Rattle.events.specs.declared.answer.Delivery.{Delivery}
use Rattle.events.specs.declared.answer.Outcome.{Outcome}
use Rattle.events.specs.declared.refusal.HubRefusal.{HubRefusal}
use Rattle.events.specs.declared.refusal.HubRefusal.TheVariants as refusal
use Rattle.session_plan.specs.declared.stage.Stage.{Stage}
use Rattle.session_plan.specs.declared.stage.Stage.TheVariants as stage
use Rattle.session_conn.specs.declared.output.Stall.{Stall}
use Rattle.session_conn.specs.declared.output.Stall.TheVariants as stall
use Rattle.session_conn.specs.declared.drain.Drained.{Drained}
use Rattle.session_conn.specs.declared.drain.Written.{Written}
use Rattle.session_conn.specs.declared.drain.Written.TheVariants.{All, Closes, Short}
use Rattle.session_plan.specs.Replies.{closed_from, takes_headers}
use Rattle.session_conn.specs.Turns.{Steps, event, IsAnswered}
use Rattle.session_plan.specs.pending.Owing.{Owed, owed_by}
pub use Rattle.session_plan.specs.pending.Texts.{delivery_text, texts, IsWritten}

-- ---- what is written

-- What was taken is written whole; or whole with the text that closes the connection, where a delivery was missed;
-- or memory lacked, and the rest is left, with whether one was missed.
abbrev pub IsTold : Bool → List ℕ → List Delivery → Bool → Written → List ℕ → List Delivery → Bool → Type 0
IsTold headers before all missed All after left missed' =
    (after ≡ before ++ texts headers all) × (left ≡ []) × (missed ≡ false) × (missed' ≡ false)
IsTold headers before all missed Closes after left missed' =
    (after ≡ (before ++ texts headers all) ++ err_line error.SlowConsumer) × (left ≡ []) × (missed ≡ true) × (missed' ≡ false)
IsTold headers before all missed Short after left missed' = IsWritten headers before all after left × (missed' ≡ missed)

-- ---- a drain

-- what a drain leaves: what is written, where the connection is then, what stopped it, and what is not written yet
pub record Drain : Type 0 where
  pub text : List ℕ
  pub stage : Stage
  pub stall : Option Stall
  pub owed : List Delivery
  pub missed : Bool

abbrev pub drain_of : Drained → Owed → Drain
drain_of d o = record { text = d.bytes.items; stage = d.stage; stall = d.stall; owed = o.deliveries; missed = o.missed }

abbrev pub stage_after : Stage → Written → Stage
stage_after s All = s
stage_after s Closes = closed_from s
stage_after s Short = s

abbrev pub stall_after : Written → Option Stall
stall_after All = None
stall_after Closes = None
stall_after Short = Some stall.Memory

-- what is owed is written as far as it goes, and that is the end of the drain
abbrev pub IsDrainEnd : Stage → List ℕ → List Delivery → Bool → Drain → Type 0
IsDrainEnd s before all missed d =
    (written : Written) × IsTold (takes_headers s) before all missed written d.text d.owed d.missed
    × (d.stage ≡ stage_after s written) × (d.stall ≡ stall_after written)

-- nothing but this is written, and nothing is owed
abbrev pub drain_owing_nothing : List ℕ → Stage → Option Stall → Bool → Drain
drain_owing_nothing text s stall missed = record { text = text; stage = s; stall = stall; owed = []; missed = missed }

-- what came of a Take: what it gave is written as far as it goes. No other outcome comes to a Take.
abbrev pub IsOutcomeTold : Stage → List ℕ → Bool → Option Owed → Drain → Type 0
IsOutcomeTold s before missed (Some owed) d = IsDrainEnd s before owed.deliveries owed.missed d
IsOutcomeTold s before missed None d = d ≡ drain_owing_nothing before s None missed

-- what a Take's answer comes to
abbrev pub IsTakeTold : Stage → List ℕ → Bool → Result Outcome HubRefusal → Drain → Type 0
IsTakeTold s before missed (Ok outcome) d = IsOutcomeTold s before missed (owed_by outcome) d
IsTakeTold s before missed (Err refusal.NoSession) d = d ≡ drain_owing_nothing (before ++ err_line error.Authorization) (stage.Closed false) None missed
IsTakeTold s before missed (Err refusal.HistoryFull) d = d ≡ drain_owing_nothing before s (Some stall.HistoryFull) missed
IsTakeTold s before missed (Err refusal.NoMemory) d = d ≡ drain_owing_nothing before s (Some stall.Memory) missed
IsTakeTold s before missed _ d = d ≡ drain_owing_nothing before s None missed

-- memory lacked before the Take was made
pub record IsNotTaken {P : Type 0} (s : Stage) (before : List ℕ) (missed : Bool) (p : P) (d : Drain) (p' : P) : Type 0 where
  pub drain : d ≡ drain_owing_nothing before s (Some stall.Memory) missed
  pub port : p' ≡ p

-- one Take was made
abbrev pub IsTakeMade : {P : Type 0} → Steps P → ℕ → ℕ → ℕ → Stage → List ℕ → Bool → P → Drain → P → Type 0
IsTakeMade steps now conn most s before missed p d p' =
    (r : Result Outcome HubRefusal) × IsAnswered steps.step p (event now (command.Take conn most)) r p' × IsTakeTold s before missed r d

abbrev pub IsTaken : {P : Type 0} → Steps P → ℕ → ℕ → ℕ → Stage → List ℕ → Bool → P → Drain → P → Type 0
IsTaken steps now conn most s before missed p d p' =
    IsNotTaken s before missed p d p' ⊎ IsTakeMade steps now conn most s before missed p d p'

-- what was owed is not wholly written, or closed the connection: no Take is made
pub record IsOwedStill {P : Type 0} (s : Stage) (owed : List Delivery) (missed : Bool) (written : Written) (p : P) (d : Drain) (p' : P) : Type 0 where
  pub told : IsTold (takes_headers s) [] owed missed written d.text d.owed d.missed
  pub stage : d.stage ≡ stage_after s written
  pub stall : d.stall ≡ stall_after written
  pub port : p' ≡ p

-- A drain: what is owed is written first, and then one Take is made, unless it closed the connection.
abbrev pub Drains : {P : Type 0} → Steps P → ℕ → ℕ → ℕ → Stage → List Delivery → Bool → P → Drain → P → Type 0
Drains steps now conn most s owed missed p d p' =
    IsOwedStill s owed missed Short p d p' ⊎ IsOwedStill s owed missed Closes p d p'
    ⊎ ((missed ≡ false) × IsTaken steps now conn most s (texts (takes_headers s) owed) false p d p')
