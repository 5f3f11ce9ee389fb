-- the nearest so far is passed by what a part so far passes
use Rattle.std.proofs.Common.{◌≡◌, ◌&&◌, ℕ, nat_lt, take}
use Rattle.std.specs.List.{list_any}
use Rattle.hub.specs.Segments.{HistoryPart}
use Rattle.hub.specs.joins.Joins.{place}
use Rattle.hub.proofs.joins.joining.nearest_below.Given as goal

abbrev pub invariant-loop-segment : goal.invariant-loop-segment
invariant-loop-segment l = (n : ℕ) → list_any (λ (r : HistoryPart). nat_lt n (place r) && nat_lt (place r) l.at) (take l.segment-index l.segments) ≡ nat_lt n l.nearest
