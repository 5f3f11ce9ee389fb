-- The history in parts: the segments that were handed out, and what a hub still holds (docs/GUARANTEE.md, "The history").
use Rattle.std.specs.Prelude.{◌+◌, ℕ, List, [], min}
use Rattle.events.specs.declared.answer.Entry.{Entry}
use Rattle.world.specs.World.{World}
use Rattle.hub.specs.History.{State, IsOpening, IsLegalRun}

-- entries between two worlds
pub record HistoryPart : Type 0 where
  pub opening : World
  pub entries : List Entry
  pub closing : World

-- A world that some legal run leads to from the opening of a hub.
pub record IsReached (w : World) : Type 0 where
  pub first : World
  pub opens : IsOpening first
  pub past : List Entry
  pub legal : IsLegalRun first past w

-- What every part keeps: its entries lead from its opening world to its closing one.
pub record IsHistoryPart (p : HistoryPart) : Type 0 where
  pub reached : IsReached p.opening
  pub legal : IsLegalRun p.opening p.entries p.closing

-- the number of its first entry; without entries the one that comes next, or the last, 2^64 - 1, where that was given
abbrev pub first_number : HistoryPart → ℕ
first_number p = min (p.opening.number + 1) 18446744073709551615

-- what a hub holds of its history: the tail, behind all segments
abbrev pub tail_of : State → HistoryPart
tail_of s = record { opening = s.opening; entries = s.entries; closing = s.world }

-- once the tail is handed out, a hub goes on from the present world
abbrev pub rotated : State → State
rotated s = record s { opening = s.world; entries = [] }
