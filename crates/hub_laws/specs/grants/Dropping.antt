-- A hub that drops what is dead at the beginning of each event (docs/GUARANTEE.md, "Reply grants: the law").
use Rattle.std.specs.Prelude.{◌≡◌, ◌+◌, ◌∷◌, ℕ, List, [], filter, map, Result, Ok, Err}
use Rattle.std.specs.Option.{option_map}
use Rattle.policy_doc.specs.declared.document.PolicyDoc.{PolicyDoc}
use Rattle.reply_grants.specs.Grants.{is_live}
use Rattle.events.specs.declared.event.Event.{Event}
use Rattle.events.specs.declared.answer.Entry.{Entry}
use Rattle.events.specs.declared.answer.Outcome.{Outcome}
use Rattle.events.specs.declared.refusal.HubRefusal.{HubRefusal}
use Rattle.world_sessions.specs.deliveries.Replying.{terms_of}
use Rattle.world_sessions.specs.declared.deliveries.session.Session.{Session}
use Rattle.world.specs.World.{World, opening_world, advanced}
use Rattle.world.specs.Transition.{transition, moved, numbered}
use Rattle.hub.specs.History.{IsLegalRun}
use Rattle.hub.specs.Sound.{IsSound}

-- a session with those of its grants alone that are live at a moment
abbrev pub with_live : ℕ → Session → Session
with_live now z = record z { replies = option_map (filter (is_live now (terms_of z))) z.replies }

-- the world with what is live alone
abbrev pub settled : World → World
settled w = record w { sessions = map (with_live w.moment) w.sessions }

-- The transition, but that in each session what is dead is dropped first, once the clock has gone on.
abbrev pub dropping : World → Event → Result (Outcome × World) HubRefusal
dropping w e = numbered (w.number + 1) (moved (settled (advanced w e.now)) e.what)

-- the same refusal, or the same outcome; and then what is live is the same, and so is all else
abbrev pub AreAlike : Result (Outcome × World) HubRefusal → Result (Outcome × World) HubRefusal → Type 0
AreAlike (Ok r) (Ok s) = (r.0 ≡ s.0) × (settled s.1 ≡ settled r.1)
AreAlike (Err a) (Err b) = a ≡ b
AreAlike (Ok r) (Err b) = ⊥
AreAlike (Err a) (Ok s) = ⊥

-- Of two worlds in which the same is live, an event makes worlds in which the same is live, and it is answered the same,
-- though the one drops what is dead at each event, and the other later.
abbrev pub MakesNoDifference : Type 0
MakesNoDifference = (w v : World) (e : Event) → IsSound w → settled v ≡ settled w → AreAlike (transition w e) (dropping v e)

-- ---- runs

-- what is answered of an event, and the world after it, which a refusal leaves
abbrev pub answer_in : Result (Outcome × World) HubRefusal → Result Outcome HubRefusal
answer_in (Ok r) = Ok r.0
answer_in (Err refusal) = Err refusal

abbrev pub world_after : World → Result (Outcome × World) HubRefusal → World
world_after w (Ok r) = r.1
world_after w (Err refusal) = w

-- what is answered of events, one after the other, by such a step
unfoldable pub answers_to : (World → Event → Result (Outcome × World) HubRefusal) → World → List Event → List (Result Outcome HubRefusal)
answers_to step w [] = []
answers_to step w (e ∷ es) = answer_in (step w e) ∷ answers_to step (world_after w (step w e)) es

-- So are the events of every list, from every world that a legal run leads to from an opening.
abbrev pub NeverMakesDifference : Type 0
NeverMakesDifference = (policy : PolicyDoc) (capacity : ℕ) (es : List Entry) (w v : World) (events : List Event) → IsLegalRun (opening_world policy capacity) es w → settled v ≡ settled w →
    answers_to dropping v events ≡ answers_to transition w events
