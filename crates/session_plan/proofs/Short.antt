-- A text that is told without the hub is short, and there is room for it.
use Rattle.std.proofs.Common.{rules, arith, ℕ, ◌≤◌, length, Bool, true, false, List, Option, Some, None, Ok, Err}
use Rattle.subjects.specs.Subject.{Token}
use Rattle.wire_read.specs.declared.fault.WireFault.{WireFault}
use Rattle.wire_read.specs.declared.fault.WireFault.TheVariants as fault
use Rattle.wire_read.specs.declared.frame.Frame.{Frame}
use Rattle.wire_read.specs.declared.frame.Frame.TheVariants as frame
use Rattle.wire_write.specs.connect_opts.Opts.{opts_of}
use Rattle.wire_write.specs.connect_opts.Read.{Read}
use Rattle.wire_write.specs.declared.connect_opts.opts.ConnectOpts.{ConnectOpts}
use Rattle.session_plan.specs.declared.stage.Stage.{Stage}
use Rattle.session_plan.specs.declared.stage.Stage.TheVariants as stage
use Rattle.session_plan.specs.declared.plan.Plan.{Plan}
use Rattle.session_plan.specs.declared.plan.Plan.TheVariants.{Tells, Asks, Publishes}
use Rattle.subjects.specs.Fault.{pattern_if}
use Rattle.events.specs.Messages.{Message, message_of}
use Rattle.session_plan.specs.Replies.{text_line, fault_text, closed_from, room_of}
use Rattle.session_plan.specs.Plans.{text_plan, connect_plan, message_plan, pattern_plan, fresh_plan, connected_plan, plan_of, named_if}

-- what is told without the hub has at most 64 bytes
abbrev pub IsShort : Plan → Type 0
IsShort (Tells r) = length (text_line r.text) ≤ 64
IsShort (Asks _ _) = Unit {0}
IsShort (Publishes _) = Unit {0}

fault_short : (f : WireFault) (s : Stage) → IsShort (text_plan (fault_text f) s)
fault_short fault.UnknownOperation s = search rules
fault_short fault.ParserError s = search rules
fault_short fault.ControlLine s = search rules
fault_short fault.Payload s = search rules

connect_short : (conn : ℕ) (r : Read ConnectOpts) → IsShort (connect_plan conn r)
connect_short conn (Ok o) = tt
connect_short conn (Err _) = search rules

message_short : (s : Stage) (m : Option Message) → IsShort (message_plan s m)
message_short s None = search rules
message_short s (Some m) = tt

pattern_short : (conn : ℕ) (s : Stage) (pattern : Option (List Token)) (queue : Option (Option (List Token))) (sid : List ℕ) → IsShort (pattern_plan conn s pattern queue sid)
pattern_short conn s None queue sid = search rules
pattern_short conn s (Some subject) None sid = search rules
pattern_short conn s (Some subject) (Some queue) sid = tt

fresh_short : (conn : ℕ) (f : Frame) → IsShort (fresh_plan conn f)
fresh_short conn (frame.Connect t) = connect_short conn (opts_of t)
fresh_short conn frame.Ping = search rules
fresh_short conn frame.Pong = search rules
fresh_short conn (frame.Fault f) = fault_short f (stage.Closed false)
fresh_short conn (frame.Pub _) = search rules
fresh_short conn (frame.Hpub _) = search rules
fresh_short conn (frame.Sub _ _ _) = search rules
fresh_short conn (frame.Unsub _ _) = search rules

connected_short : (conn : ℕ) (s : Stage) (headers : Bool) (f : Frame) → IsShort (connected_plan conn s headers f)
connected_short conn s headers (frame.Connect _) = search rules
connected_short conn s headers (frame.Pub texts) = message_short s (message_of texts)
connected_short conn s true (frame.Hpub texts) = message_short s (message_of texts)
connected_short conn s false (frame.Hpub texts) = search rules
connected_short conn s headers (frame.Sub subject queue sid) = pattern_short conn s (pattern_if subject) (named_if queue) sid
connected_short conn s headers (frame.Unsub sid most) = tt
connected_short conn s headers frame.Ping = search rules
connected_short conn s headers frame.Pong = search rules
connected_short conn s headers (frame.Fault f) = fault_short f (closed_from s)

pub plan_short : (conn : ℕ) (s : Stage) (f : Frame) → IsShort (plan_of conn s f)
plan_short conn stage.Fresh f = fresh_short conn f
plan_short conn (stage.Connected verbose headers) f = connected_short conn (stage.Connected verbose headers) headers f
plan_short conn (stage.Closed session) f = search rules

-- the room for a text about a frame is enough for it
pub room_enough : (f : Frame) → 64 ≤ room_of f
room_enough (frame.Pub texts) = omega arith
room_enough (frame.Hpub texts) = omega arith
room_enough (frame.Sub subject None _) = omega arith
room_enough (frame.Sub subject (Some queue) _) = omega arith
room_enough (frame.Connect _) = omega arith
room_enough (frame.Unsub _ _) = omega arith
room_enough frame.Ping = omega arith
room_enough frame.Pong = omega arith
room_enough (frame.Fault _) = omega arith
