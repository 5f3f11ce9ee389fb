-- What a client is told (NATS documentation, "Client Protocol"; docs/PROTOCOL.md, "A connection's life").
use Rattle.std.specs.Prelude.{ℕ, ◌+◌, Bool, true, false, List, [], length, Option, Some, None, Result, Ok, Err, if◌then◌else◌}
use Rattle.wire_read.specs.declared.fault.WireFault.{WireFault}
use Rattle.wire_read.specs.declared.fault.WireFault.TheVariants as fault
use Rattle.wire_read.specs.declared.frame.Frame.{Frame}
use Rattle.wire_read.specs.declared.frame.Frame.TheVariants as frame
use Rattle.wire_write.specs.Texts.{ok_line, pong_line}
use Rattle.wire_write.specs.Errors.{err_line, closes_after, publish_denied_line, subscription_denied_line}
use Rattle.wire_write.specs.declared.error.ServerError.{ServerError}
use Rattle.wire_write.specs.declared.error.ServerError.TheVariants as error
use Rattle.events.specs.declared.answer.Outcome.{Outcome}
use Rattle.events.specs.declared.answer.Outcome.TheVariants as outcome
use Rattle.events.specs.declared.refusal.HubRefusal.{HubRefusal}
use Rattle.events.specs.declared.refusal.HubRefusal.TheVariants as refusal
use Rattle.session_plan.specs.declared.stage.Stage.{Stage}
use Rattle.session_plan.specs.declared.stage.Stage.TheVariants as stage
use Rattle.session_plan.specs.declared.text.Text.{Text}
use Rattle.session_plan.specs.declared.text.Text.TheVariants as text
use Rattle.session_plan.specs.declared.reply.Reply.{Reply}

-- ---- stages

-- nothing more is written
abbrev pub is_closed : Stage → Bool
is_closed stage.Fresh = false
is_closed (stage.Connected _ _) = false
is_closed (stage.Closed _) = true

-- the client's CONNECT was accepted, and nothing has closed the connection since
abbrev pub is_connected : Stage → Bool
is_connected stage.Fresh = false
is_connected (stage.Connected _ _) = true
is_connected (stage.Closed _) = false

-- after a closing text a session that stood stands still
abbrev pub closed_from : Stage → Stage
closed_from stage.Fresh = stage.Closed false
closed_from (stage.Connected _ _) = stage.Closed true
closed_from (stage.Closed session) = stage.Closed session

-- after an error's text
abbrev pub after_error : ServerError → Stage → Stage
after_error e s = if closes_after e then closed_from s else s

-- the client declared headers
abbrev pub takes_headers : Stage → Bool
takes_headers stage.Fresh = false
takes_headers (stage.Connected _ headers) = headers
takes_headers (stage.Closed _) = false

-- ---- texts

-- the line of a text
abbrev pub text_line : Text → List ℕ
text_line text.Nothing = []
text_line text.Accepted = ok_line
text_line text.Pong = pong_line
text_line (text.Error e) = err_line e

-- `+OK` to a client that asked for it
abbrev pub ok_if : Stage → List ℕ
ok_if (stage.Connected verbose _) = if verbose then ok_line else []
ok_if stage.Fresh = []
ok_if (stage.Closed _) = []

-- the text of a fault of the stream
abbrev pub fault_text : WireFault → Text
fault_text fault.UnknownOperation = text.Error error.UnknownOperation
fault_text fault.ParserError = text.Error error.ParserError
fault_text fault.ControlLine = text.Error error.ControlLine
fault_text fault.Payload = text.Error error.PayloadViolation

-- that the user may not do what a frame asks; no others are denied
abbrev pub denied_line : Frame → List ℕ
denied_line (frame.Pub texts) = publish_denied_line texts.subject
denied_line (frame.Hpub texts) = publish_denied_line texts.subject
denied_line (frame.Sub subject queue _) = subscription_denied_line subject queue
denied_line _ = []

-- room enough for the rest of any text about a SUB, which may name a queue
abbrev pub queue_room : Option (List ℕ) → ℕ
queue_room None = 64
queue_room (Some queue) = length queue + 80

-- room enough for any text about a frame
abbrev pub room_of : Frame → ℕ
room_of (frame.Pub texts) = length texts.subject + 64
room_of (frame.Hpub texts) = length texts.subject + 64
room_of (frame.Sub subject queue _) = length subject + queue_room queue
room_of _ = 64

-- ---- replies

-- a text alone
abbrev pub reply_of_text : Text → Stage → Reply
reply_of_text t s = record { text = t; stage = s }

-- an error, which closes the connection or leaves it open
abbrev pub reply_of_error : ServerError → Stage → Reply
reply_of_error e s = reply_of_text (text.Error e) (after_error e s)

-- what a client is told, and where its connection is then
pub record Told : Type 0 where
  pub text : List ℕ
  pub stage : Stage

abbrev pub told_text : List ℕ → Stage → Told
told_text text s = record { text = text; stage = s }

-- a reply, by its text
abbrev pub told : Reply → Told
told r = told_text (text_line r.text) r.stage

-- an error, which closes the connection or leaves it open
abbrev pub told_error : ServerError → Stage → Told
told_error e s = told_text (err_line e) (after_error e s)

-- the reply to what came of a frame's event, where an accepted CONNECT leads to another stage; no others come to a frame
abbrev pub reply_to_outcome : Stage → Stage → Frame → Outcome → Told
reply_to_outcome s accepted f outcome.Connected = told_text (ok_if accepted) accepted
reply_to_outcome s accepted f outcome.Subscribed = told_text (ok_if s) s
reply_to_outcome s accepted f outcome.SameSid = told_text (ok_if s) s
reply_to_outcome s accepted f outcome.Unsubscribed = told_text (ok_if s) s
reply_to_outcome s accepted f (outcome.Published _ _) = told_text (ok_if s) s
reply_to_outcome s accepted f (outcome.Denied _) = told_text (denied_line f) s
reply_to_outcome s accepted f outcome.SubLimit = told_error error.SubscriptionsExceeded s
reply_to_outcome s accepted f outcome.AuthViolation = told_error error.Authorization s
reply_to_outcome s accepted f _ = told_text [] s

-- the reply to a refusal; of memory and the history nothing is told
abbrev pub reply_to_refusal : Stage → HubRefusal → Told
reply_to_refusal s refusal.SessionTaken = told_error error.InvalidProtocol s
reply_to_refusal s refusal.SessionLimit = told_error error.ConnectionsExceeded s
reply_to_refusal s refusal.NoSession = told_text (err_line error.Authorization) (stage.Closed false)
reply_to_refusal s _ = told_text [] s

-- the reply to what was answered
abbrev pub reply_to : Stage → Stage → Frame → Result Outcome HubRefusal → Told
reply_to s accepted f (Ok outcome) = reply_to_outcome s accepted f outcome
reply_to s accepted f (Err refusal) = reply_to_refusal s refusal
