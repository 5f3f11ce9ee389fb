-- The server of a script: its hub, the moment of its events and the words that they take (docs/SCRIPT.md, "Lines").
use Rattle.std.specs.Prelude.{◌≡◌, ◌∷◌, ℕ, List, [], Option, Some, None, Result, Ok, Err}
use Rattle.policy_doc.specs.declared.document.PolicyDoc.{PolicyDoc}
use Rattle.policy_doc.specs.Document.{builtin_doc}
use Rattle.hub.specs.History.{State, opening_state, stepped}
use Rattle.hub.specs.declared.hub.Caps.{Caps}
use Rattle.events.specs.declared.event.Event.{Event}
use Rattle.events.specs.declared.event.Command.TheVariants.{Reload}
use Rattle.events.specs.declared.answer.Entry.{Entry}
use Rattle.events.specs.declared.answer.Outcome.{Outcome}
use Rattle.events.specs.declared.refusal.HubRefusal.{HubRefusal}
use Rattle.session_conn.specs.Turns.{event}

-- the hub, what it was given at its opening, the moment of the next event, and the words that messages still take
pub record Serving : Type 0 where
  pub hub : State
  pub caps : Caps
  pub moment : ℕ
  pub words : List ℕ

-- how many deliveries may wait for a session, and how many entries the history may hold, where a script doesn't say
abbrev pub usual_caps : Caps
usual_caps = record { outbox = 1024; history = 100000 }

abbrev pub opened : Caps → PolicyDoc → State
opened caps policy = opening_state policy caps.outbox caps.history

-- a server to which nothing has happened
abbrev pub opening : PolicyDoc → Serving
opening policy = record { hub = opened usual_caps policy; caps = usual_caps; moment = 0; words = [] }

-- another policy, or other caps, over a hub with nobody connected
abbrev pub with_policy : PolicyDoc → Serving → Serving
with_policy policy w = record w { hub = opened w.caps policy }

abbrev pub with_caps : Caps → Serving → Serving
with_caps caps w = record w { hub = opened caps builtin_doc; caps = caps }

-- what a hub answers to an event, and what it is after it; a refusal leaves it as it is
abbrev pub by_step : State → Result (Entry × State) HubRefusal → Result Outcome HubRefusal × State
by_step s (Ok r) = (Ok r.0.outcome, r.1)
by_step s (Err e) = (Err e, s)

unfoldable pub heard : State → Event → Result Outcome HubRefusal × State
heard s e = by_step s (stepped s e)

-- A policy comes into force, by one event at the script's moment: the event's entry, and the server after it. The one
-- thing that refuses it is a history that is full; there is no entry then, and the server is as it was.
abbrev pub installed_by : Serving → Result (Entry × State) HubRefusal → Option Entry × Serving
installed_by w (Ok r) = (Some r.0, record w { hub = r.1 })
installed_by w (Err full) = (None, w)

unfoldable pub installed : PolicyDoc → Serving → Option Entry × Serving
installed policy w = installed_by w (stepped w.hub (event w.moment (Reload policy)))

-- the first of the words, 0 where none is left, and the words behind it
abbrev pub first_word : List ℕ → ℕ
first_word [] = 0
first_word (word ∷ words) = word

abbrev pub later_words : List ℕ → List ℕ
later_words [] = []
later_words (word ∷ words) = words

-- a word is drawn from the front
abbrev pub IsNextWord : List ℕ → ℕ → List ℕ → Type 0
IsNextWord words word after = (word ≡ first_word words) × (after ≡ later_words words)
