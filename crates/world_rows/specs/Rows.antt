-- Subscriptions in rows by rising id, of which some are empty.
use Rattle.std.specs.Prelude.{◌≡◌, ◌+◌, ℕ, List, Option, length}
use Rattle.stores.specs.numbered_slots.Slots as slots
use Rattle.world_rows.specs.declared.rows.Row.{Row}
use Rattle.world_rows.specs.declared.subscription.Subscription.{Subscription}

abbrev pub id_of : Row → ℕ
id_of r = r.id

abbrev pub held : Row → Option Subscription
held r = r.subscription

-- those that stand, in order
abbrev pub entries_in : List Row → List (ℕ × Subscription)
entries_in rows = slots.entries_in id_of held rows

-- the id of every row is below a number
abbrev pub AreBelow : ℕ → List Row → Type 0
AreBelow n rows = slots.AreBelow id_of n rows

-- the ids rise, those of empty rows too
abbrev pub AreRising : List Row → Type 0
AreRising rows = slots.AreRising id_of rows

-- that many of them are empty
abbrev pub AreEmpty : List Row → ℕ → Type 0
AreEmpty rows empty = length (entries_in rows) + empty ≡ length rows

-- the row of that id
abbrev pub IsPlaceOf : ℕ → List Row → ℕ → Type 0
IsPlaceOf id rows at = slots.IsPlaceOf id_of id rows at
