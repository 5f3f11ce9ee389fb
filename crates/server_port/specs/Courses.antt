-- How far a round and a turn of it have come, and what an answer makes of that.
use Rattle.std.specs.Prelude.{ℕ, ◌-◌, List, [], ◌∷◌, Option, None, Some, Result, Ok, Err, true}
use Rattle.events.specs.declared.event.Event.{Event}
use Rattle.events.specs.declared.answer.Entry.{Entry}
use Rattle.events.specs.declared.refusal.HubRefusal.{HubRefusal}
use Rattle.events.specs.declared.refusal.PublishRefusal.{PublishRefusal}
use Rattle.events.specs.declared.refusal.PublishRefusal.TheVariants.{By, Held}
use Rattle.server_state.specs.mail.Work.{work}
use Rattle.worker_port.specs.declared.course.Course.{Course}
use Rattle.worker_port.specs.declared.course.Why.{Why}
use Rattle.worker_port.specs.declared.course.Why.TheVariants.{Receiver, Slow, Share}

-- an event has its answer, which is work of the round's share
abbrev pub followed : Entry → Course → Course
followed entry c = record c { share = c.share - work entry.outcome; has_entered = true }

-- an event was entered or refused
abbrev pub entered : Result Entry (Event × HubRefusal) → Course → Course
entered (Ok entry) c = followed entry c
entered (Err _) c = c

-- too much waits for this receiver, or one has no room until then, as the desk told; where it told nothing, the share is spent
abbrev pub why_of : Option ℕ → Option ℕ → Why
why_of (Some conn) until = Slow conn
why_of None (Some until) = Receiver until
why_of None None = Share

-- a message was refused: to hold one back is a delivery's work
abbrev pub refused : PublishRefusal → Option ℕ → Option ℕ → Course → Course
refused Held slow until c = record c { share = c.share - 1; why = Some (why_of slow until) }
refused (By _) slow until c = c

-- a message was offered
abbrev pub offered : Result Entry (Event × PublishRefusal) → Option ℕ → Option ℕ → Course → Course
offered (Ok entry) slow until c = followed entry c
offered (Err back) slow until c = refused back.1 slow until c

-- several events have their answers, in order
unfoldable pub all_followed : List Entry → Course → Course
all_followed [] c = c
all_followed (entry ∷ entries) c = all_followed entries (followed entry c)
