-- Any calls of one connection, with what others do to the hub between them, and what they come to (docs/GUARANTEE.md,
-- "A connection").
use Rattle.std.specs.Prelude.{◌≡◌, ◌⊎◌, ◌||◌, ℕ, Bool, true, false, List, [], ◌∷◌, ◌++◌, Option, Some, None, Result, if◌then◌else◌}
use Rattle.std.specs.List.{flat_map, list_any, AllByRecursion}
use Rattle.std.specs.Option.{option_to_list}
use Rattle.wire_read.specs.declared.frame.Frame.{Frame}
use Rattle.wire_read.specs.Framing.{framing, frames_of}
use Rattle.hub.specs.History.{State, IsStep}
use Rattle.events.specs.declared.event.Event.{Event}
use Rattle.events.specs.declared.answer.Entry.{Entry}
use Rattle.events.specs.declared.answer.Outcome.{Outcome}
use Rattle.events.specs.declared.refusal.HubRefusal.{HubRefusal}
use Rattle.session_plan.specs.declared.stage.Stage.{Stage}
use Rattle.session_plan.specs.declared.stage.Stage.TheVariants.{Fresh}
use Rattle.session_conn.specs.declared.output.Output.{Output}
use Rattle.session_conn.specs.declared.output.Stall.{Stall}
use Rattle.session_conn.specs.declared.output.Stall.TheVariants as stall
use Rattle.session_plan.specs.Replies.{is_closed}
use Rattle.session_conn.specs.Turns.{Step, Steps, Draws, IsAnswered}
use Rattle.session_conn.specs.Calls.{Connection, new_connection, Given, given, nothing, IsOpened, IsServed, IsDrained, IsEnded}
use Rattle.script.specs.sessions.Happenings.{Happening, Opened, Framed, Took, Sent, Slow, Ended, Other, framed, sent, took, is_slow, has_missed, Submitted, comes, IsInOrder}

-- ---- calls

-- What is called, at which moment: with the piece, and what words are drawn from before and after it; or with how
-- many are taken at most. Or what others submit to the hub.
pub data Call (W : Type 0) : Type 0 where
  Opens : Call W
  Bytes : ℕ → List ℕ → W → W → Call W
  Drains : ℕ → ℕ → Call W
  Ends : ℕ → Call W
  Others : Event → Call W

-- where all is between two calls
pub record Moment : Type 0 where
  pub at : Connection
  pub hub : State

abbrev pub moment : Connection → State → Moment
moment at hub = record { at = at; hub = hub }

-- each of these is a step of the hub
abbrev pub AreSteps : {P : Type 0} → Step P → (P → State) → Type 0
AreSteps {P} step hub_of = (p : P) (e : Event) (a : Result Entry (Event × HubRefusal)) (p' : P) → step p e a p' → IsStep (hub_of p) e a (hub_of p')

-- a port to a hub: each of its events is a step of it, and what it holds back leaves it as it is
pub record IsPortTo {P : Type 0} (steps : Steps P) (hub_of : P → State) : Type 0 where
  pub step : AreSteps steps.step hub_of
  pub post : AreSteps steps.post hub_of
  pub holds : (p p' : P) → steps.holds p p' → hub_of p' ≡ hub_of p

-- a call over a port of its own: what is lent to it is the hub as it is then, and what it leaves is the hub after it
abbrev pub Lends : {P : Type 0} → (P → State) → State → State → (P → P → Type 0) → Type 0
Lends {P} hub_of s s' call = (p : P) × (p' : P) × (hub_of p ≡ s) × (s' ≡ hub_of p') × call p p'

-- a call, and what it gives
abbrev pub IsCall : {P W : Type 0} → Steps P → Draws W → (P → State) → Call W → Moment → Given → Moment → Type 0
IsCall steps draws hub_of Opens m g m' = (o : Output) × (g ≡ given o) × IsOpened m.at.conn o × (m' ≡ m)
IsCall steps draws hub_of (Bytes now piece w w') m g m' =
    (o : Output) × (g ≡ given o) × Lends hub_of m.hub m'.hub (λ p p'. IsServed steps draws now piece m.at p w o m'.at p' w')
IsCall steps draws hub_of (Drains now most) m g m' =
    (o : Output) × (g ≡ given o) × Lends hub_of m.hub m'.hub (λ p p'. IsDrained steps now most m.at p o m'.at p')
IsCall steps draws hub_of (Ends now) m g m' =
    (o : Output) × (g ≡ given o) × Lends hub_of m.hub m'.hub (λ p p'. IsEnded steps now m.at p o m'.at p')
IsCall steps draws hub_of (Others e) m g m' = (r : Result Outcome HubRefusal) × (g ≡ nothing false None) × IsAnswered IsStep m.hub e r m'.hub × (m'.at ≡ m.at)

-- what a call takes of the client's bytes: none once the connection has closed, or where it says so
abbrev pub unless_refused : Option Stall → List ℕ → List ℕ
unless_refused (Some stall.PieceNotTaken) piece = []
unless_refused _ piece = piece

abbrev pub taken_by : {W : Type 0} → Call W → Connection → Given → List ℕ
taken_by (Bytes now piece w w') c g = if is_closed c.stage then [] else unless_refused g.stall piece
taken_by _ c g = []

-- a call and what it gives
abbrev pub Made : Type 0 → Type 0
Made W = Call W × Given

abbrev pub written_by : {W : Type 0} → Made W → List ℕ
written_by made = made.1.bytes

-- calls one after another, and all bytes that they take
unfoldable pub AreCalls : {P W : Type 0} → Steps P → Draws W → (P → State) → List (Made W) → Moment → List ℕ → Moment → Type 0
AreCalls steps draws hub_of [] m taken m' = (taken ≡ []) × (m' ≡ m)
AreCalls steps draws hub_of (made ∷ more) m taken m' =
    (next : Moment) × (after : List ℕ) × IsCall steps draws hub_of made.0 m made.1 next × AreCalls steps draws hub_of more next after m'
    × (taken ≡ taken_by made.0 m.at made.1 ++ after)

-- ---- what happened in a call

abbrev pub IsFramedAt : ℕ → Happening → Type 0
IsFramedAt now (Framed at f word r) = at ≡ now
IsFramedAt now _ = ⊥

abbrev pub IsOfDrain : ℕ → ℕ → Happening → Type 0
IsOfDrain now most (Took at as_many r) = (at ≡ now) × (as_many ≡ most)
IsOfDrain now most (Sent d) = Unit {0}
IsOfDrain now most Slow = Unit {0}
IsOfDrain now most _ = ⊥

-- What happens in a call: frames have their turns at its moment, or it is a drain's. INFO is written, or memory lacked.
-- An end, and what others do, are one thing each.
abbrev pub IsPart : {W : Type 0} → Call W → List Happening → Type 0
IsPart Opens hs = (hs ≡ []) ⊎ (hs ≡ Opened ∷ [])
IsPart (Bytes now piece w w') hs = AllByRecursion (IsFramedAt now) hs
IsPart (Drains now most) hs = AllByRecursion (IsOfDrain now most) hs
IsPart (Ends now) hs = (r : Result Outcome HubRefusal) × (hs ≡ Ended now r ∷ [])
IsPart (Others e) hs = (r : Result Outcome HubRefusal) × (hs ≡ Other e r ∷ [])

-- whether a call says that the connection has closed, by where it is then
abbrev pub closes_by : {W : Type 0} → Call W → Stage → Bool
closes_by (Bytes now piece w w') s = is_closed s
closes_by (Drains now most) s = is_closed s
closes_by _ s = false

-- what happened falls into parts, one for each call, and a call gives what its part comes to
unfoldable pub HasParts : {W : Type 0} → ℕ → Stage → List (Made W) → List Happening → Type 0
HasParts conn s [] hs = hs ≡ []
HasParts conn s (made ∷ more) hs =
    (part : List Happening) × (rest : List Happening) × (hs ≡ part ++ rest) × IsPart made.0 part
    × (written_by made ≡ (comes conn s part).text) × (made.1.close ≡ closes_by made.0 (comes conn s part).stage)
    × HasParts conn (comes conn s part).stage more rest

-- ---- what all comes to

-- The hub went from one state to another by these events with these answers, and by no other. What it refused for want
-- of memory, or since its history is full, changed nothing.
unfoldable pub IsStepped : List Submitted → State → State → Type 0
IsStepped [] s s' = s' ≡ s
IsStepped (ask ∷ asks) s s' = (next : State) × IsAnswered IsStep s ask.0 ask.1 next × IsStepped asks next s'

-- these words were drawn one after the other, and no other
unfoldable pub IsDrawn : {W : Type 0} → Draws W → W → List ℕ → W → Type 0
IsDrawn draws w [] w' = w' ≡ w
IsDrawn {W} draws w (word ∷ words) w' = (next : W) × draws w word next × IsDrawn draws next words w'

-- by one call, and by all of them
abbrev pub IsDrawnBy : {W : Type 0} → Draws W → Call W → List ℕ → Type 0
IsDrawnBy draws (Bytes now piece w w') words = IsDrawn draws w words w'
IsDrawnBy draws _ words = words ≡ []

unfoldable pub AreDrawn : {W : Type 0} → Draws W → List (Made W) → List ℕ → Type 0
AreDrawn draws [] words = words ≡ []
AreDrawn draws (made ∷ more) words =
    (here : List ℕ) × (rest : List ℕ) × (words ≡ here ++ rest) × IsDrawnBy draws made.0 here × AreDrawn draws more rest

-- frames that had no turn are kept, with the word of the first; or they were dropped, once the connection has closed
abbrev pub IsLeft : Bool → List Frame → Option ℕ → List Frame → Option ℕ → Type 0
IsLeft true left spare frames word = (frames ≡ []) × (word ≡ None)
IsLeft false left spare frames word = (frames ≡ left) × (word ≡ spare)

-- What happened accounts for all that was written, taken, submitted and drawn.
pub record IsAccounted {W : Type 0} (draws : Draws W) (conn : ℕ) (s : State) (calls : List (Made W)) (taken : List ℕ) (m : Moment) : Type 0 where
  -- what happened, the frames that had no turn, and the word of the first of these where it has drawn one
  pub happened : List Happening
  pub left : List Frame
  pub spare : Option ℕ
  -- call by call, and nothing of it behind a closing text
  pub parts : HasParts conn Fresh calls happened
  pub order : IsInOrder conn Fresh happened
  -- all that is written, and where the connection is then
  pub text : flat_map written_by calls ≡ (comes conn Fresh happened).text
  pub stage : m.at.stage ≡ (comes conn Fresh happened).stage
  -- each event is submitted once, in order, and a message has one word, however often it stalls
  pub hub : IsStepped (comes conn Fresh happened).submitted s m.hub
  pub words : AreDrawn draws calls ((comes conn Fresh happened).words ++ option_to_list spare)
  -- each frame of the bytes that were taken has one turn, in order, or none; none waits but where something stopped it
  pub frames : framing (flat_map framed happened ++ left) m.at.reader.rest m.at.reader.failed ≡ frames_of taken
  pub waits : IsLeft (is_closed m.at.stage) left spare m.at.frames m.at.word
  pub wordless : left ≡ [] → spare ≡ None
  pub rests : m.at.stall ≡ None → m.at.frames ≡ []
  -- each delivery that was taken is written, in order, or owed; and that one was missed is written, or owed
  pub deliveries : flat_map took happened ≡ flat_map sent happened ++ m.at.owed
  pub missed : list_any has_missed happened ≡ (list_any is_slow happened || m.at.missed)

-- Whatever is called over ports to one hub, and whatever others do to it between: what happened accounts for it.
abbrev pub AccountsOver : {P W : Type 0} → Steps P → Draws W → (P → State) → Type 0
AccountsOver {W} steps draws hub_of =
    (conn : ℕ) (s : State) (calls : List (Made W)) (taken : List ℕ) (m : Moment) →
    AreCalls steps draws hub_of calls (moment (new_connection conn) s) taken m → IsAccounted draws conn s calls taken m

abbrev pub AccountsForCalls : {P W : Type 0} → Steps P → Draws W → Type 0
AccountsForCalls {P} steps draws = (hub_of : P → State) → IsPortTo steps hub_of → AccountsOver steps draws hub_of
