-- An event entered by a seat (docs/GUARANTEE.md, "Threads").
use Rattle.std.specs.Prelude.{◌≡◌, ◌⊎◌, ◌≤◌, Result, Ok, Err, length}
use Rattle.events.specs.declared.event.Event.{Event}
use Rattle.events.specs.declared.refusal.HubRefusal.{HubRefusal}
use Rattle.events.specs.declared.refusal.HubRefusal.TheVariants.{NoMemory}
use Rattle.world.specs.Transition.{IsRefusal}
use Rattle.hub.specs.Sound.{IsSound}
use Rattle.hub.specs.History.{State, IsLegalRun, stepped}
use Rattle.hub.specs.Segments.{IsReached}
use Rattle.shared_waits.specs.receipts.Receipts.{Receipt}

-- A hub, with what every hub keeps: a legal run leads from the opening of one to its world (`Hub::prove_invariant`).
pub record IsHub (s : State) : Type 0 where
  pub sound : IsSound s.world
  pub reached : IsReached s.opening
  pub legal : IsLegalRun s.opening s.entries s.world
  pub room : length s.entries ≤ s.most

-- One step of the hub, whose receipt has the entry and the policy in force after it; or a refusal that changes nothing
-- and hands the event back. It is the step's, or want of memory for the receipt.
abbrev pub IsEntered : State → Event → Result Receipt (Event × HubRefusal) → State → Type 0
IsEntered s e (Ok r) after = (stepped s e ≡ Ok (r.entry, after)) × (r.policy ≡ after.world.policy)
IsEntered s e (Err refused) after =
    (refused.0 ≡ e) × (after ≡ s) × ((refused.1 ≡ NoMemory) ⊎ IsRefusal (stepped s e) refused.1)
