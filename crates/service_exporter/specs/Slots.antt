-- Routes in slots by rising number, of which some are empty.
use Rattle.std.specs.Prelude.{◌≡◌, ◌≢◌, ◌<◌, ◌≤◌, ℕ, Bool, true, false, List, Option, Some, None, length, slice_index_or}
use Rattle.std.specs.Option.{option_map}
use Rattle.stores.specs.numbered_slots.Slots as slots
use Rattle.stores.specs.numbered_slots.Slots.{passes}
use Rattle.subjects.specs.Subject.{Token}
use Rattle.service_exporter.specs.service_subjects.Names.{is_on}
use Rattle.service_exporter.specs.Routes.{Numbered, lives, on_row}
use Rattle.service_exporter.specs.declared.route.NewRow.{NewRow}
use Rattle.policy_doc.specs.declared.exports.document.Row.{Row}
use Rattle.service_exporter.specs.declared.route.Route.{Route}
use Rattle.service_exporter.specs.declared.slots.Slot.{Slot}

abbrev pub slot_number : Slot → ℕ
slot_number s = s.number

abbrev pub held : Slot → Option Route
held s = s.route

-- the routes that stand, in order
abbrev pub standing_in : List Slot → List Numbered
standing_in all = slots.entries_in slot_number held all

-- whether a route is for a single response
abbrev pub is_single : Route → Bool
is_single r = r.terms.single

-- the route that stands there, if one does, lives up to a moment
abbrev pub LivesUntil : ℕ → Option Route → Type 0
LivesUntil end None = Unit {0}
LivesUntil end (Some r) = (t : ℕ) → t ≤ end → lives t r ≡ true

-- the route on its row in another policy, if that has the row
abbrev pub kept_in : (Row → Option NewRow) → Option Route → Option Route
kept_in renewed None = None
kept_in renewed (Some r) = option_map (on_row r) (renewed r.row)

-- the number of every slot is below a number
abbrev pub AreBelow : ℕ → List Slot → Type 0
AreBelow n all = slots.AreBelow slot_number n all

-- the numbers rise, those of empty slots too
abbrev pub AreRising : List Slot → Type 0
AreRising all = slots.AreRising slot_number all

-- the slot of that number
abbrev pub IsPlaceOf : ℕ → List Slot → ℕ → Type 0
IsPlaceOf number all at = slots.IsPlaceOf slot_number number all at

-- no slot has that number
abbrev pub IsAbsent : ℕ → List Slot → Type 0
IsAbsent number all = slots.IsAbsent slot_number number all

-- whether the route of a subject stands in a slot
abbrev pub is_in : List Token → Slot → Bool
is_in s slot = passes (λ r. is_on s slot.number r.word) slot.route

-- no slot has a route of a subject
abbrev pub IsNowhere : List Token → List Slot → Type 0
IsNowhere s slots = (k : ℕ) (d : Slot) → k < length slots → is_in s (slice_index_or slots k d) ≡ false

-- the slot of the route of a subject, and no other has one
pub record IsPlaceOn (s : List Token) (slots : List Slot) (at : ℕ) : Type 0 where
  pub within : at < length slots
  pub here : (d : Slot) → is_in s (slice_index_or slots at d) ≡ true
  pub elsewhere : (k : ℕ) (d : Slot) → k < length slots → k ≢ at → is_in s (slice_index_or slots k d) ≡ false

-- a slot with its route on the row that another policy has
abbrev pub kept_slot : (Row → Option NewRow) → Slot → Slot
kept_slot renewed slot = record { number = slot.number; route = kept_in renewed slot.route }
