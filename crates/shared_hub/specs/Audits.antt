-- The closing audit: segments and what the hub holds as one history, and each receipt in it (docs/GUARANTEE.md,
-- "Threads").
use Rattle.std.specs.Prelude.{◌≡◌, ◌≢◌, ◌≤◌, ◌+◌, ◌-◌, ◌++◌, ◌∷◌, ℕ, List, Option, Some, None, Err, false, if◌then◌else◌, All, AllPairs, length, filter, take, drop, sum, nat_lt, slice_get}
use Rattle.events.specs.declared.answer.Entry.{Entry}
use Rattle.world.specs.World.{World}
use Rattle.hub.specs.History.{State, IsOpening, IsLegalRun}
use Rattle.hub.specs.Segments.{HistoryPart}
use Rattle.hub.specs.joins.Joins.{parts_of, has_number, IsLeastFault}
use Rattle.shared_waits.specs.receipts.Receipts.{Receipt}
use Rattle.shared_hub.specs.declared.audit.AuditFault.{AuditFault}
use Rattle.shared_hub.specs.declared.audit.AuditFault.TheVariants.{SeatMissing, SegmentGap, ReceiptMismatch, NoMemory}

-- the entry with a number, among those that come after a number
abbrev pub entry_after : ℕ → List Entry → ℕ → Option Entry
entry_after before entries number = if nat_lt before number then slice_get entries (number - (before + 1)) else None

-- ---- receipts in a whole history

-- the entry of a receipt stands in the history at its number
abbrev pub Stands : List Entry → Receipt → Type 0
Stands history r = entry_after 0 history r.entry.number ≡ Some r.entry

-- no receipt of the list has the number
abbrev pub HasNone : List Receipt → ℕ → Type 0
HasNone receipts number = All (λ (q : Receipt). q.entry.number ≢ number) receipts

-- each receipt stands in the history, and no two have one number
pub record AreGenuine (history : List Entry) (receipts : List Receipt) : Type 0 where
  pub stand : All (Stands history) receipts
  pub once : AllPairs (λ (q r : Receipt). q.entry.number ≢ r.entry.number) receipts

-- the number of the first receipt of the list that doesn't stand in the history, or whose number an earlier one has
pub record IsMismatch (history : List Entry) (receipts : List Receipt) (number : ℕ) : Type 0 where
  pub before : List Receipt
  pub receipt : Receipt
  pub after : List Receipt
  pub list : receipts ≡ before ++ receipt ∷ after
  pub is : receipt.entry.number ≡ number
  pub genuine : AreGenuine history before
  pub wrong : ¬ (Stands history receipt × HasNone before receipt.entry.number)

-- what a look through the receipts finds: that all are genuine, or the first that isn't
abbrev pub IsFound : List Entry → List Receipt → Option ℕ → Type 0
IsFound history receipts None = AreGenuine history receipts
IsFound history receipts (Some number) = IsMismatch history receipts number

-- ---- segments and what a hub holds

-- Joined in the order of their numbers they are this history: a legal run from the opening of a hub to its present world,
-- in which each part stands at its numbers, and each number is in one part.
pub record IsJoined (segments : List HistoryPart) (s : State) (history : List Entry) : Type 0 where
  pub first : World
  pub opens : IsOpening first
  pub legal : IsLegalRun first history s.world
  pub parts : All (λ (p : HistoryPart). take (length p.entries) (drop p.opening.number history) ≡ p.entries) (parts_of segments s)
  pub once : (n : ℕ) → 1 ≤ n → n ≤ s.world.number → length (filter (has_number n) (parts_of segments s)) ≡ 1

-- they are a history, in which each receipt stands
pub record AreEntered (segments : List HistoryPart) (s : State) (receipts : List Receipt) : Type 0 where
  pub history : List Entry
  pub joined : IsJoined segments s history
  pub genuine : AreGenuine history receipts

-- and it has as many entries as there were when the run opened, and the seats have made since
pub record IsWhole (opening : ℕ) (segments : List HistoryPart) (s : State) (receipts : List Receipt) (counts : List ℕ) : Type 0 where
  pub entered : AreEntered segments s receipts
  pub count : length entered.history ≡ opening + sum counts

-- What is wrong with segments and receipts, of the hub that the audit is of: something at a number, the least one; nothing
-- at any, and a receipt is out of place in their history; or nothing at all, and memory could not be had.
abbrev pub IsFault : List HistoryPart → State → List Receipt → AuditFault → Type 0
IsFault segments s receipts (SegmentGap number) = IsLeastFault segments s (Err number)
IsFault segments s receipts (ReceiptMismatch number) = (history : List Entry) × IsJoined segments s history × IsMismatch history receipts number
IsFault segments s receipts NoMemory = AreEntered segments s receipts
IsFault segments s receipts SeatMissing = ⊥

-- Where an audit is refused: not all seats were handed in, or else something is wrong with what was handed in beside them.
abbrev pub IsDue : List HistoryPart → State → ℕ → ℕ → List Receipt → AuditFault → Type 0
IsDue segments s seats handed receipts SeatMissing = handed ≢ seats
IsDue segments s seats handed receipts fault = (handed ≡ seats) × IsFault segments s receipts fault

-- ---- looking up

-- what is found of a number in a part: its entry; or None, where the part doesn't have it
abbrev pub IsLookUp : HistoryPart → ℕ → Option Entry → Type 0
IsLookUp p number None = has_number number p ≡ false
IsLookUp p number (Some e) = entry_after p.opening.number p.entries number ≡ Some e
