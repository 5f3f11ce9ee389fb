-- What the calls of a connection come to over the server of a script, where memory is enough (docs/GUARANTEE.md,
-- "Scripts").
use Rattle.std.specs.Prelude.{◌≡◌, ◌++◌, ◌∷◌, ℕ, Bool, true, false, List, [], Option, Some, None, Result, Ok, Err, if◌then◌else◌}
use Rattle.wire_read.specs.declared.frame.Frame.{Frame}
use Rattle.wire_write.specs.Errors.{err_line}
use Rattle.wire_write.specs.declared.error.ServerError.TheVariants as error
use Rattle.hub.specs.History.{State}
use Rattle.events.specs.declared.event.Command.TheVariants as command
use Rattle.events.specs.declared.answer.Delivery.{Delivery}
use Rattle.events.specs.declared.answer.Outcome.{Outcome}
use Rattle.events.specs.declared.answer.Outcome.TheVariants as outcome
use Rattle.events.specs.declared.refusal.HubRefusal.{HubRefusal}
use Rattle.events.specs.declared.refusal.HubRefusal.TheVariants as refusal
use Rattle.session_conn.specs.declared.output.Output.{Output}
use Rattle.session_conn.specs.declared.output.Stall.{Stall}
use Rattle.session_conn.specs.declared.output.Stall.TheVariants as stall
use Rattle.session_plan.specs.declared.plan.Plan.{Plan}
use Rattle.session_plan.specs.declared.plan.Plan.TheVariants.{Tells, Asks, Publishes}
use Rattle.session_plan.specs.declared.stage.Stage.{Stage}
use Rattle.session_plan.specs.declared.stage.Stage.TheVariants as stage
use Rattle.session_conn.specs.Calls.{Connection, stage_closed, stall_closed, undrained, unless_closed}
use Rattle.session_conn.specs.Drains.{Drain, drain_owing_nothing, texts}
use Rattle.session_plan.specs.Plans.{plan_of}
use Rattle.session_plan.specs.Replies.{told, is_closed, closed_from, takes_headers}
use Rattle.session_conn.specs.Serving.{Spot, spot, Served, served, rests, behind, frames_after, reader_after}
use Rattle.session_conn.specs.Turns.{Turned, Goes, Stalls, turn_after, event}
use Rattle.script.specs.Server.{Serving, heard, first_word, later_words}

-- ---- frames

-- where a connection is between two turns: the hub, the words that are left, its stage, and a word that is drawn already
abbrev pub Here : Type 0
Here = Spot State (List ℕ)

-- what a frame's turn comes to, and the hub and the words after it
pub record FrameTurn : Type 0 where
  pub turned : Turned
  pub hub : State
  pub words : List ℕ

abbrev pub frame_turn : Turned → State → List ℕ → FrameTurn
frame_turn t hub words = record { turned = t; hub = hub; words = words }

-- the word of a message: the one that is drawn already, or the next one, which is 0 where none is left
abbrev pub word_of : Option ℕ → List ℕ → ℕ
word_of (Some drawn) words = drawn
word_of None words = first_word words

abbrev pub words_after : Option ℕ → List ℕ → List ℕ
words_after (Some drawn) words = words
words_after None words = later_words words

-- after the hub's answer
abbrev pub answered_turn : Stage → Stage → Frame → Option ℕ → List ℕ → Result Outcome HubRefusal × State → FrameTurn
answered_turn s accepted f word words a = frame_turn (turn_after s accepted f word a.0) a.1 words

-- a frame's turn by its plan: nothing is asked, or the hub is, once
abbrev pub planned : ℕ → ℕ → Here → Frame → Plan → FrameTurn
planned now conn at f (Tells r) = frame_turn (Goes (told r)) at.port at.words
planned now conn at f (Asks what accepted) = answered_turn at.stage accepted f at.word at.words (heard at.port (event now what))
planned now conn at f (Publishes message) =
    let word = word_of at.word at.words in
    answered_turn at.stage at.stage f (Some word) (words_after at.word at.words)
    (heard at.port (event now (command.Pub conn message word)))

-- a turn, and then the others; where the history is full the frame is left with all behind it
abbrev pub goes_on : (Here → Served State (List ℕ)) → List Frame → Stage → FrameTurn → Turned → Served State (List ℕ)
goes_on more all s t (Goes r) = behind r.text (more (spot t.hub t.words r.stage None))
goes_on more all s t (Stalls stall word) = served [] all (Some stall) (spot t.hub t.words s word)

-- frames in order, until one closes the connection; the rest is dropped then
unfoldable pub turns : ℕ → ℕ → List Frame → Here → Served State (List ℕ)
turns now conn [] at = rests at
turns now conn (f ∷ fs) at =
    if is_closed at.stage then rests at
    else (let t = planned now conn at f (plan_of conn at.stage f) in goes_on (turns now conn fs) (f ∷ fs) at.stage t t.turned)

-- ---- calls

-- what a call comes to: what it gives, and the connection and the server after it
pub record Call : Type 0 where
  pub text : List ℕ
  pub stall : Option Stall
  pub conn : Connection
  pub server : Serving

-- the client's bytes: the frames that were kept, and those that the bytes complete
abbrev pub after_turns : Serving → Connection → List ℕ → Served State (List ℕ) → Call
after_turns w c bytes r =
    record {
      text = r.text;
      stall = r.stall;
      conn = record c { reader = reader_after c.reader bytes; stage = r.at.stage; frames = r.frames; word = r.at.word; stall = r.stall };
      server = record w { hub = r.at.port; words = r.at.words };
    }

-- nothing
abbrev pub unchanged : Serving → Connection → Option Stall → Call
unchanged w c stall = record { text = []; stall = stall; conn = c; server = w }

unfoldable pub bytes_call : Serving → Connection → List ℕ → Call
bytes_call w c bytes =
    if is_closed c.stage then unchanged w c None
    else after_turns w c bytes (turns w.moment c.conn (c.frames ++ frames_after c.reader bytes) (spot w.hub w.words c.stage c.word))

-- what a Take gave, behind what stood there; where a delivery was missed that is told, and closes the connection
abbrev pub delivered : Stage → List ℕ → List Delivery → Bool → Drain
delivered s before deliveries missed =
    let text = before ++ texts (takes_headers s) deliveries in
    if missed then drain_owing_nothing (text ++ err_line error.SlowConsumer) (closed_from s) None false else drain_owing_nothing text s None false

-- what a Take's answer comes to. No others come to a Take.
abbrev pub take_answered : Stage → List ℕ → Result Outcome HubRefusal → Drain
take_answered s before (Ok (outcome.Taken deliveries missed)) = delivered s before deliveries missed
take_answered s before (Err refusal.NoSession) = drain_owing_nothing (before ++ err_line error.Authorization) (stage.Closed false) None false
take_answered s before (Err refusal.HistoryFull) = drain_owing_nothing before s (Some stall.HistoryFull) false
take_answered s before (Err refusal.NoMemory) = drain_owing_nothing before s (Some stall.Memory) false
take_answered s before _ = drain_owing_nothing before s None false

-- what is owed is written first; where a delivery was missed with it that is the end, else one Take is made
abbrev pub drain_of : Serving → Connection → ℕ → Drain × State
drain_of w c most =
    if c.missed then (delivered c.stage [] c.owed true, w.hub)
    else (let a = heard w.hub (event w.moment (command.Take c.conn most)) in (take_answered c.stage (texts (takes_headers c.stage) c.owed) a.0, a.1))

abbrev pub after_drain : Serving → Connection → Drain × State → Call
after_drain w c d =
    record {
      text = d.0.text;
      stall = d.0.stall;
      conn = unless_closed (is_closed d.0.stage) (record c { stage = d.0.stage; owed = d.0.owed; missed = d.0.missed });
      server = record w { hub = d.1 };
    }

-- a drain of at most so many deliveries; what stopped the frames that are kept stops it too
abbrev pub drain_if : Serving → Connection → ℕ → Option Stall → Call
drain_if w c most (Some s) = unchanged w c (Some s)
drain_if w c most None = after_drain w c (drain_of w c most)

unfoldable pub drain_call : Serving → Connection → ℕ → Call
drain_call w c most = if is_closed c.stage then unchanged w c None else drain_if w c most (undrained c.stall)

-- whether a session stands after the Close of one that stood, what stopped it, and the hub after it
pub record Closing : Type 0 where
  pub stage : Stage
  pub stall : Option Stall
  pub hub : State

abbrev pub closed_by : Result Outcome HubRefusal × State → Closing
closed_by a = record { stage = stage_closed a.0; stall = stall_closed a.0; hub = a.1 }

-- a Close is submitted exactly where a session stands
abbrev pub closing : Serving → ℕ → Stage → Closing
closing w conn (stage.Closed true) = closed_by (heard w.hub (event w.moment (command.Close conn)))
closing w conn s = record { stage = s; stall = None; hub = w.hub }

abbrev pub after_closing : Serving → Connection → Closing → Call
after_closing w c e =
    record {
      text = [];
      stall = e.stall;
      conn = record c { stage = e.stage; frames = []; word = None; stall = None };
      server = record w { hub = e.hub };
    }

-- the end: frames that were kept are dropped, and the session goes
unfoldable pub end_call : Serving → Connection → Call
end_call w c = after_closing w c (closing w c.conn (closed_from c.stage))

-- ---- what the code gives

-- memory lacked
abbrev pub is_memory_stall : Option Stall → Bool
is_memory_stall (Some stall.PieceNotTaken) = true
is_memory_stall (Some stall.Memory) = true
is_memory_stall _ = false

-- what a call gave and left is this
pub record IsCall (k : Call) (o : Output) (conn : Connection) (w : Serving) : Type 0 where
  pub text : o.bytes.items ≡ k.text
  pub stall : o.stall ≡ k.stall
  pub conn_is : conn ≡ k.conn
  pub server_is : w ≡ k.server
