-- The history: what a hub remembers of its events (docs/GUARANTEE.md, "The history").
use Rattle.std.specs.Prelude.{◌≡◌, ◌==◌, ◌≤◌, ◌+◌, ◌||◌, ◌∷◌, ◌++◌, ℕ, List, [], Bool, Result, Ok, Err, if◌then◌else◌, length, nat_le}
use Rattle.policy_doc.specs.Document.{IsValidPolicy}
use Rattle.policy_doc.specs.declared.document.PolicyDoc.{PolicyDoc}
use Rattle.events.specs.declared.event.Event.{Event}
use Rattle.events.specs.declared.answer.Entry.{Entry}
use Rattle.events.specs.declared.answer.Outcome.{Outcome}
use Rattle.events.specs.declared.refusal.HubRefusal.{HubRefusal}
use Rattle.events.specs.declared.refusal.HubRefusal.TheVariants.{HistoryFull}
use Rattle.world.specs.World.{World, opening_world}
use Rattle.world.specs.Transition.{transition, entry_of, IsRefusal}

-- a hub: the world that its tables show, and its history
pub record State : Type 0 where
  pub world : World
  -- the world before its entries: the one that it opened with, or that of its last rotation
  pub opening : World
  -- how many entries it may hold
  pub most : ℕ
  -- one for each event that was answered, oldest first
  pub entries : List Entry

-- nothing has happened
abbrev pub opening_state : PolicyDoc → ℕ → ℕ → State
opening_state policy capacity most =
    record { world = opening_world policy capacity; opening = opening_world policy capacity; most = most; entries = [] }

-- A hub opens with such a world.
pub record IsOpening (w : World) : Type 0 where
  -- nobody is connected, and nothing has happened
  pub fresh : w ≡ opening_world w.policy w.capacity
  pub policy : IsValidPolicy w.policy
  -- an outbox holds 1 to 65,536 deliveries
  pub least : 1 ≤ w.capacity
  pub most : w.capacity ≤ 65536

-- ---- a step

-- the history holds its most, or the last number, 2^64 - 1, has been given
abbrev pub is_history_full : State → Bool
is_history_full s = nat_le s.most (length s.entries) || s.world.number == 18446744073709551615

-- an event that the world took: its entry is the answer, and stands behind all others
abbrev pub remembered : State → Event → Result (Outcome × World) HubRefusal → Result (Entry × State) HubRefusal
remembered s e (Ok r) = Ok (entry_of r.0 r.1 e, record s { world = r.1; entries = s.entries ++ entry_of r.0 r.1 e ∷ [] })
remembered s e (Err refusal) = Err refusal

-- answer and state after an event, or the refusal
abbrev pub stepped : State → Event → Result (Entry × State) HubRefusal
stepped s e = if is_history_full s then Err HistoryFull else remembered s e (transition s.world e)

-- One step from a state to another: what the event makes of it, answered with its entry; or a refusal that changes
-- nothing and hands the event back.
abbrev pub IsStep : State → Event → Result Entry (Event × HubRefusal) → State → Type 0
IsStep s e (Ok a) after = stepped s e ≡ Ok (a, after)
IsStep s e (Err refused) after = (refused.0 ≡ e) × (after ≡ s) × IsRefusal (stepped s e) refused.1

-- ---- a legal run

-- An entry from a world to another: its outcome is the transition's of its event, its number the next one, its
-- epoch the one in force after it.
pub record IsEntry (w : World) (e : Entry) (next : World) : Type 0 where
  pub outcome : transition w e.event ≡ Ok (e.outcome, next)
  pub number : e.number ≡ w.number + 1
  pub epoch : e.epoch ≡ next.epoch

-- Entries that lead from a world to another, one by one.
unfoldable pub IsLegalRun : World → List Entry → World → Type 0
IsLegalRun w [] after = after ≡ w
IsLegalRun w (e ∷ es) after = (next : World) × IsEntry w e next × IsLegalRun next es after
