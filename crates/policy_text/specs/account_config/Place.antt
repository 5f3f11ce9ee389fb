-- Where the faults of a JSON value stand, and which comes first (docs/POLICY.md, "Faults").
use Rattle.std.specs.Prelude.{◌≡◌, ◌<◌, ◌⊎◌, ⊤, ℕ, List, Option, Some, None, Ok, Err}
use Rattle.std.specs.Ordering.{nat_cmp}
use Rattle.std.specs.declared.cmp.Ordering.TheVariants.{Less}
use Rattle.std.specs.Cmp.Lexicographic.{slice_cmp}
use Rattle.policy_walk.specs.declared.fault.ConfigFault.{ConfigFault}
use Rattle.policy_walk.specs.Fault.{Read}

-- a place in a value: itself, a key that its table doesn't have, a key of the table that isn't there (by its number in
-- the table; a row that is of no kind lacks the first), and a place in what stands under a key of the table (by its
-- number), at an index of a list or under a name. Under a name, number 0 has the account or the destinations, and number 1
-- what the weights of these add up to
pub data Place : Type 0 where
  itself : Place
  unknown : List ℕ → Place
  missing : ℕ → Place
  under : ℕ → Place → Place
  named : List ℕ → Place → Place

-- The value itself comes first, then unknown keys by their bytes, missing keys by their numbers, and what stands under
-- keys by their numbers, at indexes, or under names by their bytes.
abbrev pub IsBefore : Place → Place → Type 0
IsBefore itself itself = ⊥
IsBefore itself _ = ⊤
IsBefore (unknown k) itself = ⊥
IsBefore (unknown k) (unknown l) = slice_cmp nat_cmp k l ≡ Less
IsBefore (unknown k) _ = ⊤
IsBefore (missing i) itself = ⊥
IsBefore (missing i) (unknown l) = ⊥
IsBefore (missing i) (missing j) = i < j
IsBefore (missing i) _ = ⊤
IsBefore (under i p) (under j q) = (i < j) ⊎ ((i ≡ j) × IsBefore p q)
IsBefore (under i p) (named l q) = ⊤
IsBefore (under i p) _ = ⊥
IsBefore (named k p) (named l q) = (slice_cmp nat_cmp k l ≡ Less) ⊎ ((k ≡ l) × IsBefore p q)
IsBefore (named k p) _ = ⊥

-- the fault at each place of a value that has one
abbrev pub Faults : Type 0
Faults = Place → Option ConfigFault

-- a fault stands at a place, and none at a place before it
abbrev pub IsFirst : Faults → ConfigFault → Type 0
IsFirst faults fault = (p : Place) × (faults p ≡ Some fault) × ((q : Place) → IsBefore q p → faults q ≡ None)

-- what was read is what is written where there is no fault, and else it is the first fault
abbrev pub IsReading : {X : Type 0} → Faults → X → Read X → Type 0
IsReading faults written (Ok x) = ((p : Place) → faults p ≡ None) × (x ≡ written)
IsReading faults written (Err fault) = IsFirst faults fault
