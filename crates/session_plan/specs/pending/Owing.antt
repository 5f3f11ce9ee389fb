-- What a connection owes its client of a Take (docs/PROTOCOL.md, "Deliveries").
use Rattle.std.specs.Prelude.{Bool, false, List, [], Option, Some, None}
use Rattle.events.specs.declared.answer.Delivery.{Delivery}
use Rattle.events.specs.declared.answer.Entry.{Entry}
use Rattle.events.specs.declared.answer.Outcome.{Outcome}
use Rattle.events.specs.declared.answer.Outcome.TheVariants as outcome

-- the deliveries that are not written yet, and whether the Take told that one was missed
pub record Owed : Type 0 where
  pub deliveries : List Delivery
  pub missed : Bool

abbrev pub owed : List Delivery → Bool → Owed
owed deliveries missed = record { deliveries = deliveries; missed = missed }

abbrev pub owing_nothing : Owed
owing_nothing = owed [] false

-- the deliveries of an outcome: those of a Take, and no others have any
abbrev pub taken_in : Outcome → List Delivery
taken_in (outcome.Taken deliveries missed) = deliveries
taken_in _ = []

abbrev pub deliveries_of : Option Entry → List Delivery
deliveries_of None = []
deliveries_of (Some entry) = taken_in entry.outcome

-- whether a Take told that a delivery was missed
abbrev pub missed_in : Outcome → Option Bool
missed_in (outcome.Taken deliveries missed) = Some missed
missed_in _ = None

-- what is owed after a Take
abbrev pub owed_by : Outcome → Option Owed
owed_by (outcome.Taken deliveries missed) = Some (owed deliveries missed)
owed_by _ = None
