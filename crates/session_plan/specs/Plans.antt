-- What a frame asks of the hub, and what is told without it (NATS documentation, "Client Protocol";
-- docs/PROTOCOL.md, "A connection's life").
use Rattle.std.specs.Prelude.{ℕ, Bool, false, List, Option, Some, None, Ok, Err, if◌then◌else◌}
use Rattle.subjects.specs.Subject.{Token}
use Rattle.subjects.specs.Fault.{subject_if, pattern_if}
use Rattle.wire_message.specs.Texts.{Texts}
use Rattle.wire_read.specs.declared.frame.Frame.{Frame}
use Rattle.wire_read.specs.declared.frame.Frame.TheVariants as frame
use Rattle.wire_write.specs.declared.error.ServerError.{ServerError}
use Rattle.wire_write.specs.declared.error.ServerError.TheVariants as error
use Rattle.events.specs.declared.event.Command.TheVariants as command
use Rattle.events.specs.Messages.{Message, message_of}
use Rattle.wire_write.specs.connect_opts.Opts.{opts_of}
use Rattle.wire_write.specs.connect_opts.Read.{Read}
use Rattle.wire_write.specs.declared.connect_opts.opts.ConnectOpts.{ConnectOpts}
use Rattle.session_plan.specs.declared.stage.Stage.{Stage}
use Rattle.session_plan.specs.declared.stage.Stage.TheVariants as stage
use Rattle.session_plan.specs.declared.text.Text.{Text}
use Rattle.session_plan.specs.declared.text.Text.TheVariants as text
use Rattle.session_plan.specs.declared.plan.Plan.{Plan}
use Rattle.session_plan.specs.declared.plan.Plan.TheVariants.{Tells, Asks, Publishes}
use Rattle.session_plan.specs.Replies.{closed_from, fault_text, reply_of_text, reply_of_error}

-- the queue name, if a frame names one; nothing where what it names is no subject
abbrev pub named_from : Option (List Token) → Option (Option (List Token))
named_from None = None
named_from (Some ts) = Some (Some ts)

abbrev pub named_if : Option (List ℕ) → Option (Option (List Token))
named_if None = Some None
named_if (Some text) = named_from (subject_if text)

-- ---- plans

-- it is answered as it is: by a text, or by an error
abbrev pub text_plan : Text → Stage → Plan
text_plan t s = Tells (reply_of_text t s)

abbrev pub error_plan : ServerError → Stage → Plan
error_plan e s = Tells (reply_of_error e s)

-- a CONNECT, by its options
abbrev pub connect_plan : ℕ → Read ConnectOpts → Plan
connect_plan conn (Ok o) = Asks (command.Connect conn o.user o.password o.echo) (stage.Connected o.verbose o.headers)
connect_plan conn (Err _) = error_plan error.ParserError stage.Fresh

-- the message of a header block and a payload, which only a client that declared headers may send
abbrev pub message_if : Bool → Texts → Option Message
message_if headers texts = if headers then message_of texts else None

-- the message of a frame, if it is a PUB or such an HPUB
abbrev pub message_in : Bool → Frame → Option Message
message_in headers (frame.Pub texts) = message_of texts
message_in headers (frame.Hpub texts) = message_if headers texts
message_in headers _ = None

-- the message that a frame publishes, if its client's CONNECT was accepted
abbrev pub published_by : Stage → Frame → Option Message
published_by (stage.Connected verbose headers) f = message_in headers f
published_by _ _ = None

-- a message, if its subjects are subjects
abbrev pub message_plan : Stage → Option Message → Plan
message_plan s None = error_plan error.InvalidSubject s
message_plan s (Some m) = Publishes m

abbrev pub publish_plan : Stage → Texts → Plan
publish_plan s texts = message_plan s (message_of texts)

-- a message with a header block, which only a client that declared headers may send
abbrev pub headed_plan : Stage → Bool → Texts → Plan
headed_plan s headers texts = if headers then publish_plan s texts else error_plan error.ParserError s

-- why such a message is none
abbrev pub headed_fault : Bool → ServerError
headed_fault headers = if headers then error.InvalidSubject else error.ParserError

-- a subscription, by its pattern and the name of its queue group, if it names one
abbrev pub pattern_plan : ℕ → Stage → Option (List Token) → Option (Option (List Token)) → List ℕ → Plan
pattern_plan conn s None queue sid = error_plan error.InvalidSubject s
pattern_plan conn s (Some subject) None sid = error_plan error.InvalidSubject s
pattern_plan conn s (Some subject) (Some queue) sid = Asks (command.Sub conn subject queue sid) s

abbrev pub subscribe_plan : ℕ → Stage → List ℕ → Option (List ℕ) → List ℕ → Plan
subscribe_plan conn s subject queue sid = pattern_plan conn s (pattern_if subject) (named_if queue) sid

-- before CONNECT: nothing but CONNECT, PING, PONG and a fault is looked at
abbrev pub fresh_plan : ℕ → Frame → Plan
fresh_plan conn (frame.Connect t) = connect_plan conn (opts_of t)
fresh_plan conn frame.Ping = text_plan text.Pong stage.Fresh
fresh_plan conn frame.Pong = text_plan text.Nothing stage.Fresh
fresh_plan conn (frame.Fault f) = text_plan (fault_text f) (stage.Closed false)
fresh_plan conn _ = error_plan error.Authorization stage.Fresh

-- after it: a second CONNECT is refused before its text is read, and an HPUB of a client that declared no headers
-- before its subjects are judged
abbrev pub connected_plan : ℕ → Stage → Bool → Frame → Plan
connected_plan conn s headers (frame.Connect _) = error_plan error.InvalidProtocol s
connected_plan conn s headers (frame.Pub texts) = publish_plan s texts
connected_plan conn s headers (frame.Hpub texts) = headed_plan s headers texts
connected_plan conn s headers (frame.Sub subject queue sid) = subscribe_plan conn s subject queue sid
connected_plan conn s headers (frame.Unsub sid most) = Asks (command.Unsub conn sid most) s
connected_plan conn s headers frame.Ping = text_plan text.Pong s
connected_plan conn s headers frame.Pong = text_plan text.Nothing s
connected_plan conn s headers (frame.Fault f) = text_plan (fault_text f) (closed_from s)

-- after a closing text nothing is looked at
abbrev pub plan_of : ℕ → Stage → Frame → Plan
plan_of conn stage.Fresh f = fresh_plan conn f
plan_of conn (stage.Connected verbose headers) f = connected_plan conn (stage.Connected verbose headers) headers f
plan_of conn (stage.Closed session) f = text_plan text.Nothing (stage.Closed session)
