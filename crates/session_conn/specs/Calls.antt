-- What each call of a connection does (docs/GUARANTEE.md, "A connection").
use Rattle.std.specs.Prelude.{◌≡◌, ◌⊎◌, ℕ, Bool, true, false, List, [], ◌++◌, Option, Some, None, Result, Ok, Err, if◌then◌else◌}
use Rattle.wire_write.specs.connect_opts.Info.{info_text}
use Rattle.wire_read.specs.declared.frame.Frame.{Frame}
use Rattle.wire_read.specs.Framing.{Reader}
use Rattle.wire_write.specs.Texts.{info_line}
use Rattle.events.specs.declared.event.Command.TheVariants as command
use Rattle.events.specs.declared.answer.Delivery.{Delivery}
use Rattle.events.specs.declared.answer.Outcome.{Outcome}
use Rattle.events.specs.declared.refusal.HubRefusal.{HubRefusal}
use Rattle.events.specs.declared.refusal.HubRefusal.TheVariants as refusal
use Rattle.session_plan.specs.declared.stage.Stage.{Stage}
use Rattle.session_plan.specs.declared.stage.Stage.TheVariants as stage
use Rattle.session_conn.specs.declared.output.Output.{Output}
use Rattle.session_conn.specs.declared.output.Stall.{Stall}
use Rattle.session_conn.specs.declared.output.Stall.TheVariants as stall
use Rattle.session_plan.specs.Replies.{is_closed, closed_from}
use Rattle.session_conn.specs.Turns.{Steps, Draws, event, IsAnswered}
use Rattle.session_conn.specs.Serving.{spot, served, Serves, frames_after, reader_after}
use Rattle.session_conn.specs.Drains.{Drains}

-- ---- a connection

pub record Connection : Type 0 where
  pub conn : ℕ
  -- what its reader keeps of the stream
  pub reader : Reader
  pub stage : Stage
  -- the frames that wait for their turn, the word of the first where it has drawn one, and what stopped them
  pub frames : List Frame
  pub word : Option ℕ
  pub stall : Option Stall
  -- what a Take gave and is not written yet, and whether it told that a delivery was missed
  pub owed : List Delivery
  pub missed : Bool

-- a connection whose client has sent nothing
abbrev pub new_connection : ℕ → Connection
new_connection conn =
    record { conn = conn; reader = record { rest = []; failed = false }; stage = stage.Fresh; frames = []; word = None; stall = None; owed = []; missed = false }

-- what a call gives
pub record Given : Type 0 where
  pub bytes : List ℕ
  pub close : Bool
  pub stall : Option Stall

abbrev pub given : Output → Given
given o = record { bytes = o.bytes.items; close = o.close; stall = o.stall }

abbrev pub nothing : Bool → Option Stall → Given
nothing close stall = record { bytes = []; close = close; stall = stall }

-- a call that changes nothing
pub record IsNothing {P : Type 0} (g : Given) (old : Connection) (p : P) (o : Output) (new : Connection) (p' : P) : Type 0 where
  pub gives : given o ≡ g
  pub conn : new ≡ old
  pub port : p' ≡ p

-- ---- opening

-- INFO, or want of memory
abbrev pub IsOpenedBy : Option Stall → ℕ → Output → Type 0
IsOpenedBy None conn o = given o ≡ record { bytes = info_line (info_text conn); close = false; stall = None }
IsOpenedBy (Some s) conn o = given o ≡ nothing false (Some stall.Memory)

abbrev pub IsOpened : ℕ → Output → Type 0
IsOpened conn o = IsOpenedBy o.stall conn o

-- ---- bytes

-- The piece is read, and the frames that were kept and those that it completes have their turns, in order. The rest
-- is kept where the turns stall, with the word of the first.
pub record IsRead {P W : Type 0} (steps : Steps P) (draws : Draws W) (now : ℕ) (piece : List ℕ) (old : Connection) (p : P) (w : W) (o : Output) (new : Connection) (p' : P) (w' : W) : Type 0 where
  pub turns : Serves steps draws now old.conn (old.frames ++ frames_after old.reader piece) (spot p w old.stage old.word)
      (served o.bytes.items new.frames o.stall (spot p' w' new.stage new.word))
  pub reader : new.reader ≡ reader_after old.reader piece
  pub close : o.close ≡ is_closed new.stage
  pub stall : new.stall ≡ o.stall
  pub conn : new.conn ≡ old.conn
  pub owed : new.owed ≡ old.owed
  pub missed : new.missed ≡ old.missed

-- nothing once the connection has closed; else memory lacked for the piece and nothing happened, or it is read
abbrev pub IsServedAt : {P W : Type 0} → Steps P → Draws W → ℕ → List ℕ → Connection → P → W → Output → Connection → P → W → Bool → Type 0
IsServedAt steps draws now piece old p w o new p' w' true = IsNothing (nothing true None) old p o new p' × (w' ≡ w)
IsServedAt steps draws now piece old p w o new p' w' false =
    (IsNothing (nothing false (Some stall.PieceNotTaken)) old p o new p' × (w' ≡ w))
    ⊎ IsRead steps draws now piece old p w o new p' w'

-- the client's bytes
abbrev pub IsServed : {P W : Type 0} → Steps P → Draws W → ℕ → List ℕ → Connection → P → W → Output → Connection → P → W → Type 0
IsServed steps draws now piece old p w o new p' w' = IsServedAt steps draws now piece old p w o new p' w' (is_closed old.stage)

-- ---- drains

-- no frame waits
abbrev pub without_frames : Connection → Connection
without_frames c = record c { frames = []; word = None; stall = None }

-- behind a closing text none has its turn
abbrev pub unless_closed : Bool → Connection → Connection
unless_closed closed c =
    record c { frames = if closed then [] else c.frames; word = if closed then None else c.word; stall = if closed then None else c.stall }

-- A drain changes where the connection is, and what is owed. Frames that are kept stay as they are, unless it closes the
-- connection: then they are dropped.
pub record IsDrain {P : Type 0} (steps : Steps P) (now most : ℕ) (old : Connection) (p : P) (o : Output) (new : Connection) (p' : P) : Type 0 where
  pub drains : Drains steps now old.conn most old.stage old.owed old.missed p
      (record { text = o.bytes.items; stage = new.stage; stall = o.stall; owed = new.owed; missed = new.missed }) p'
  pub close : o.close ≡ is_closed new.stage
  pub same : new ≡ unless_closed (is_closed new.stage) (record old { stage = new.stage; owed = new.owed; missed = new.missed })

-- why there is no drain, by what stopped the frames that are kept: what is held back keeps none up
abbrev pub undrained : Option Stall → Option Stall
undrained None = None
undrained (Some stall.Held) = None
undrained (Some stall.PieceNotTaken) = Some stall.PieceNotTaken
undrained (Some stall.Memory) = Some stall.Memory
undrained (Some stall.HistoryFull) = Some stall.HistoryFull

-- while frames are kept it gives what stopped them, unless they are held back
abbrev pub IsDrainIf : {P : Type 0} → Steps P → ℕ → ℕ → Connection → P → Output → Connection → P → Option Stall → Type 0
IsDrainIf steps now most old p o new p' (Some s) = IsNothing (nothing false (Some s)) old p o new p'
IsDrainIf steps now most old p o new p' None = IsDrain steps now most old p o new p'

abbrev pub IsDrainedAt : {P : Type 0} → Steps P → ℕ → ℕ → Connection → P → Output → Connection → P → Bool → Type 0
IsDrainedAt steps now most old p o new p' true = IsNothing (nothing true None) old p o new p'
IsDrainedAt steps now most old p o new p' false = IsDrainIf steps now most old p o new p' (undrained old.stall)

abbrev pub IsDrained : {P : Type 0} → Steps P → ℕ → ℕ → Connection → P → Output → Connection → P → Type 0
IsDrained steps now most old p o new p' = IsDrainedAt steps now most old p o new p' (is_closed old.stage)

-- ---- the end

-- after a Close: it is answered, or there was no session; or the session may stand still
abbrev pub stage_closed : Result Outcome HubRefusal → Stage
stage_closed (Ok _) = stage.Closed false
stage_closed (Err refusal.NoSession) = stage.Closed false
stage_closed _ = stage.Closed true

abbrev pub stall_closed : Result Outcome HubRefusal → Option Stall
stall_closed (Err refusal.HistoryFull) = Some stall.HistoryFull
stall_closed (Err refusal.NoMemory) = Some stall.Memory
stall_closed _ = None

-- nothing is submitted
pub record IsQuiet {P : Type 0} (s : Stage) (p : P) (s' : Stage) (stall : Option Stall) (p' : P) : Type 0 where
  pub stage : s' ≡ s
  pub stall_is : stall ≡ None
  pub port : p' ≡ p

-- a Close is submitted exactly where a session stands, as far as the connection was told
abbrev pub IsClosing : {P : Type 0} → Steps P → ℕ → ℕ → Stage → P → Stage → Option Stall → P → Type 0
IsClosing steps now conn (stage.Closed true) p s' stall p' =
    (r : Result Outcome HubRefusal) × IsAnswered steps.step p (event now (command.Close conn)) r p' × (s' ≡ stage_closed r) × (stall ≡ stall_closed r)
IsClosing steps now conn s p s' stall p' = IsQuiet s p s' stall p'

-- the end: no bytes, frames that were kept are dropped, and a session that stands is closed
pub record IsEnded {P : Type 0} (steps : Steps P) (now : ℕ) (old : Connection) (p : P) (o : Output) (new : Connection) (p' : P) : Type 0 where
  pub closing : IsClosing steps now old.conn (closed_from old.stage) p new.stage o.stall p'
  pub bytes : o.bytes.items ≡ []
  pub close : o.close ≡ false
  pub same : new ≡ without_frames (record old { stage = new.stage })
