-- What events make of the waits (docs/GUARANTEE.md, "A message that is held back").
use Rattle.std.specs.Prelude.{◌≡◌, ◌∷◌, ℕ, List, [], Option, Some, None, Bool, Result, Ok, Err, if◌then◌else◌, slice_index}
use Rattle.events.specs.declared.event.Event.{Event}
use Rattle.events.specs.declared.event.Command.{Command}
use Rattle.events.specs.declared.event.Command.TheVariants.{Connect, Sub, Unsub, Pub, Take, Close, Reload}
use Rattle.events.specs.declared.answer.Entry.{Entry}
use Rattle.events.specs.declared.answer.Outcome.{Outcome}
use Rattle.events.specs.declared.answer.Outcome.TheVariants.{Reloaded}
use Rattle.events.specs.declared.refusal.HubRefusal.{HubRefusal}
use Rattle.events.specs.declared.refusal.PublishRefusal.{PublishRefusal}
use Rattle.events.specs.declared.refusal.PublishRefusal.TheVariants.{By, Held}
use Rattle.world.specs.World.{World}
use Rattle.world.specs.Shown.{waiting_of}
use Rattle.shared_waits.specs.Waiting.{Waiting, patience_with, is_out_with, ends_at, without, IsHeld, let_on, IsRested, after_ends, freed_by, after_gone}

-- how many deliveries wait for a connection
abbrev pub how_many : Option (ℕ × Bool) → ℕ
how_many None = 0
how_many (Some w) = w.0

abbrev pub waiting_in : World → ℕ → ℕ
waiting_in w conn = how_many (waiting_of w conn)

-- ---- a message

-- whose message it is, if it is one
abbrev pub publisher_of : Command → Option ℕ
publisher_of (Connect conn user password echo) = None
publisher_of (Sub conn p queue sid) = None
publisher_of (Unsub conn sid most) = None
publisher_of (Pub conn m word) = Some conn
publisher_of (Take conn most) = None
publisher_of (Close conn) = None
publisher_of (Reload doc) = None

-- who waits but for that one
abbrev pub but_for : Option ℕ → List (ℕ × ℕ) → List (ℕ × ℕ)
but_for None ws = ws
but_for (Some publisher) ws = without publisher ws

-- the waits once the publisher of a message is taken out of where it stands
abbrev pub offered : Command → Waiting → Waiting
offered c w = record w { publishers = but_for (publisher_of c) w.publishers }

-- A message that is held back has its publisher wait; whoever else offers something waits for nobody.
abbrev pub IsLaidDown : Option ℕ → (ℕ → ℕ) → ℕ → List ℕ → Waiting → Waiting → Type 0
IsLaidDown None waiting now held w after = after ≡ w
IsLaidDown (Some publisher) waiting now held w after = IsHeld waiting now publisher (slice_index held 0) held w after

-- what becomes of the waits where a message isn't entered, its publisher being out of where it stood
abbrev pub IsHeldBack : PublishRefusal → (ℕ → ℕ) → Event → List ℕ → Waiting → Waiting → Type 0
IsHeldBack (By refusal) waiting e held w after = after ≡ w
IsHeldBack Held waiting e held w after = IsLaidDown (publisher_of e.what) waiting e.now held w after

-- what becomes of the waits
abbrev pub IsOfferedTo : (ℕ → ℕ) → Event → Result Entry (Event × PublishRefusal) → List ℕ → Waiting → Waiting → Type 0
IsOfferedTo waiting e (Ok a) held w after = after ≡ offered e.what w
IsOfferedTo waiting e (Err refused) held w after = IsHeldBack refused.1 waiting e held (offered e.what w) after

-- until when a publisher is held back
abbrev pub until_by : Option ℕ → List ℕ → Waiting → Option ℕ
until_by None held after = None
until_by (Some publisher) held after = ends_at (patience_with after (slice_index held 0))

abbrev pub until_if : PublishRefusal → Command → List ℕ → Waiting → Option ℕ
until_if (By refusal) c held after = None
until_if Held c held after = until_by (publisher_of c) held after

abbrev pub until_of : Event → Result Entry (Event × PublishRefusal) → List ℕ → Waiting → Option ℕ
until_of e (Ok a) held after = None
until_of e (Err refused) held after = until_if refused.1 e.what held after

-- who has no room though the patience with it is used up
abbrev pub slow_with : ℕ → ℕ → Waiting → Option ℕ
slow_with receiver now after = if is_out_with after now receiver then Some receiver else None

abbrev pub slow_by : Option ℕ → ℕ → List ℕ → Waiting → Option ℕ
slow_by None now held after = None
slow_by (Some publisher) now held after = slow_with (slice_index held 0) now after

abbrev pub slow_if : PublishRefusal → Event → List ℕ → Waiting → Option ℕ
slow_if (By refusal) e held after = None
slow_if Held e held after = slow_by (publisher_of e.what) e.now held after

abbrev pub slow_of : Event → Result Entry (Event × PublishRefusal) → List ℕ → Waiting → Option ℕ
slow_of e (Ok a) held after = None
slow_of e (Err refused) held after = slow_if refused.1 e held after

-- where a cause is the step's
abbrev pub IfBy : PublishRefusal → (HubRefusal → Type 0) → Type 0
IfBy (By refusal) P = P refusal
IfBy Held P = Unit {0}

-- ---- all other events

-- whose session a reload has ended
abbrev pub gone_in : Outcome → List ℕ
gone_in (Reloaded gone removed) = gone
gone_in _ = []

-- whose session an event has ended
abbrev pub ended_by : Command → Outcome → List ℕ
ended_by (Close conn) o = conn ∷ []
ended_by (Reload doc) o = gone_in o
ended_by _ o = []

-- who is let on
abbrev pub freed_of : (ℕ → ℕ) → Command → Outcome → Waiting → List ℕ
freed_of waiting (Take conn most) o w = let_on conn (waiting conn) w
freed_of waiting c o w = freed_by (ended_by c o) w.publishers

-- how many deliveries still wait after a Take
abbrev pub rest_of : (ℕ → ℕ) → Command → Option ℕ
rest_of waiting (Take conn most) = Some (waiting conn)
rest_of waiting _ = None

-- those that have ended are neither behind nor wait
pub record AreEnded (gone : List ℕ) (w after : Waiting) : Type 0 where
  pub receivers : (conn : ℕ) → patience_with after conn ≡ after_gone gone conn (patience_with w conn)
  pub publishers : after.publishers ≡ after_ends gone w.publishers

-- what becomes of the waits, where the socket took nothing for so many milliseconds before a Take
abbrev pub IsSettled : (ℕ → ℕ) → ℕ → ℕ → Command → Outcome → Waiting → Waiting → Type 0
IsSettled waiting refused now (Take conn most) o w after = IsRested conn (waiting conn) refused now w after
IsSettled waiting refused now c o w after = AreEnded (ended_by c o) w after
