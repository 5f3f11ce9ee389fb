-- those so far, and those that are left
use Rattle.std.proofs.Common.{◌≡◌, ◌≤◌, ◌+◌, drop}
use Rattle.world_views.specs.Changing.{count_of}
use Rattle.world_views.proofs.changing.count_of.Given as goal

abbrev pub invariant-loop-opening : goal.invariant-loop-opening
invariant-loop-opening l = record {
  count : l.count + count_of l.exporter (drop l.opening-index l.openings) ≡ count_of l.exporter l.openings;
  within : l.count ≤ l.opening-index;
}
