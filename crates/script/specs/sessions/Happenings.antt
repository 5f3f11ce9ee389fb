-- What happens to a connection, in order, and what it comes to (docs/GUARANTEE.md, "A connection").
use Rattle.std.specs.Prelude.{ℕ, Bool, true, false, not, ◌&&◌, List, [], ◌∷◌, ◌++◌, Result, Ok, Err, IsTrue}
use Rattle.wire_write.specs.connect_opts.Info.{info_text}
use Rattle.wire_read.specs.declared.frame.Frame.{Frame}
use Rattle.wire_write.specs.Texts.{info_line}
use Rattle.wire_write.specs.Errors.{err_line}
use Rattle.wire_write.specs.declared.error.ServerError.TheVariants as error
use Rattle.events.specs.declared.event.Event.{Event}
use Rattle.events.specs.declared.event.Command.TheVariants as command
use Rattle.events.specs.declared.answer.Delivery.{Delivery}
use Rattle.events.specs.declared.answer.Outcome.{Outcome}
use Rattle.events.specs.declared.answer.Outcome.TheVariants as outcome
use Rattle.events.specs.declared.refusal.HubRefusal.{HubRefusal}
use Rattle.events.specs.declared.refusal.HubRefusal.TheVariants as refusal
use Rattle.session_plan.specs.declared.stage.Stage.{Stage}
use Rattle.session_plan.specs.declared.stage.Stage.TheVariants as stage
use Rattle.session_plan.specs.declared.plan.Plan.{Plan}
use Rattle.session_plan.specs.declared.plan.Plan.TheVariants.{Tells, Asks, Publishes}
use Rattle.session_plan.specs.Replies.{Told, told_text, told, is_closed, closed_from, takes_headers, reply_to, told_error}
use Rattle.session_plan.specs.Plans.{plan_of}
use Rattle.session_conn.specs.Turns.{event}
use Rattle.session_conn.specs.Drains.{delivery_text}
use Rattle.session_conn.specs.Calls.{stage_closed}

-- ---- what happens

pub data Happening : Type 0 where
  -- INFO is written
  Opened : Happening
  -- a frame has had its turn at a moment: the word of its message, and what the hub answered, each without meaning
  -- where the frame has none
  Framed : ℕ → Frame → ℕ → Result Outcome HubRefusal → Happening
  -- a Take of so many at a moment, and what the hub answered
  Took : ℕ → ℕ → Result Outcome HubRefusal → Happening
  -- a delivery is written
  Sent : Delivery → Happening
  -- that a delivery was missed is written
  Slow : Happening
  -- the caller's end at a moment, and what its Close was answered, without meaning where no session stands
  Ended : ℕ → Result Outcome HubRefusal → Happening
  -- what others did to the hub
  Other : Event → Result Outcome HubRefusal → Happening

-- the frame that has had its turn in it
abbrev pub framed : Happening → List Frame
framed (Framed now f word r) = f ∷ []
framed _ = []

-- the delivery that is written, and those that were taken
abbrev pub sent : Happening → List Delivery
sent (Sent d) = d ∷ []
sent _ = []

abbrev pub took : Happening → List Delivery
took (Took now most (Ok (outcome.Taken deliveries missed))) = deliveries
took _ = []

-- whether it says that a delivery was missed: to the client, and to the connection
abbrev pub is_slow : Happening → Bool
is_slow Slow = true
is_slow _ = false

abbrev pub has_missed : Happening → Bool
has_missed (Took now most (Ok (outcome.Taken deliveries missed))) = missed
has_missed _ = false

-- ---- what it comes to

-- an event that was submitted to the hub, and what was answered
abbrev pub Submitted : Type 0
Submitted = Event × Result Outcome HubRefusal

-- what is written, where the connection is then, what was submitted to the hub, and the words that messages took
pub record Came : Type 0 where
  pub text : List ℕ
  pub stage : Stage
  pub submitted : List Submitted
  pub words : List ℕ

abbrev pub came : Told → List Submitted → List ℕ → Came
came t submitted words = record { text = t.text; stage = t.stage; submitted = submitted; words = words }

-- a frame's turn, by its plan
abbrev pub come_of_plan : ℕ → ℕ → Stage → Frame → ℕ → Result Outcome HubRefusal → Plan → Came
come_of_plan conn now s f word r (Tells reply) = came (told reply) [] []
come_of_plan conn now s f word r (Asks what accepted) = came (reply_to s accepted f r) ((event now what, r) ∷ []) []
come_of_plan conn now s f word r (Publishes message) =
    came (reply_to s s f r) ((event now (command.Pub conn message word), r) ∷ []) (word ∷ [])

-- what is told of a Take's answer: that the session is gone, or nothing
abbrev pub take_told : Stage → Result Outcome HubRefusal → Told
take_told s (Err refusal.NoSession) = told_text (err_line error.Authorization) (stage.Closed false)
take_told s (Err refusal.HistoryFull) = told_text [] s
take_told s (Err refusal.NoMemory) = told_text [] s
take_told s (Err refusal.SessionTaken) = told_text [] s
take_told s (Err refusal.SessionLimit) = told_text [] s
take_told s (Ok _) = told_text [] s

-- an end, by the stage that it closes: nothing is written, and a session that stands is closed
abbrev pub come_of_end : ℕ → ℕ → Result Outcome HubRefusal → Stage → Came
come_of_end conn now r (stage.Closed true) = came (told_text [] (stage_closed r)) ((event now (command.Close conn), r) ∷ []) []
come_of_end conn now r (stage.Closed false) = came (told_text [] (stage.Closed false)) [] []
come_of_end conn now r stage.Fresh = came (told_text [] stage.Fresh) [] []
come_of_end conn now r (stage.Connected verbose headers) = came (told_text [] (stage.Connected verbose headers)) [] []

abbrev pub come_of : ℕ → Stage → Happening → Came
come_of conn s Opened = came (told_text (info_line (info_text conn)) s) [] []
come_of conn s (Framed now f word r) = come_of_plan conn now s f word r (plan_of conn s f)
come_of conn s (Took now most r) = came (take_told s r) ((event now (command.Take conn most), r) ∷ []) []
come_of conn s (Sent d) = came (told_text (delivery_text (takes_headers s) d) s) [] []
come_of conn s Slow = came (told_error error.SlowConsumer s) [] []
come_of conn s (Ended now r) = come_of_end conn now r (closed_from s)
come_of conn s (Other e r) = came (told_text [] s) ((e, r) ∷ []) []

-- one thing, and then others
abbrev pub then_came : Came → Came → Came
then_came a b = record { text = a.text ++ b.text; stage = b.stage; submitted = a.submitted ++ b.submitted; words = a.words ++ b.words }

-- all that happens, in order
unfoldable pub comes : ℕ → Stage → List Happening → Came
comes conn s [] = came (told_text [] s) [] []
comes conn s (h ∷ hs) = then_came (come_of conn s h) (comes conn (come_of conn s h).stage hs)

-- ---- what may happen

-- want of memory and a full history leave the frame, or the Take, to be tried again
abbrev pub is_final : Result Outcome HubRefusal → Bool
is_final (Err refusal.NoMemory) = false
is_final (Err refusal.HistoryFull) = false
is_final (Err refusal.NoSession) = true
is_final (Err refusal.SessionTaken) = true
is_final (Err refusal.SessionLimit) = true
is_final (Ok _) = true

-- after a closing text no frame has its turn, no Take is made, and nothing but INFO is written, where it is asked for
abbrev pub may_come : Stage → Happening → Bool
may_come s (Framed now f word r) = not (is_closed s) && is_final r
may_come s (Took now most r) = not (is_closed s) && is_final r
may_come s (Sent d) = not (is_closed s)
may_come s Slow = not (is_closed s)
may_come s Opened = true
may_come s (Ended now r) = true
may_come s (Other e r) = true

-- and each at the stage that those before lead to
unfoldable pub IsInOrder : ℕ → Stage → List Happening → Type 0
IsInOrder conn s [] = Unit {0}
IsInOrder conn s (h ∷ hs) = IsTrue (may_come s h) × IsInOrder conn (come_of conn s h).stage hs
