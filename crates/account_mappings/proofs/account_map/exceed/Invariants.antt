-- what is left decides the same as the whole
use Rattle.std.proofs.Common.{◌≡◌, ◌≤◌, drop, ltb}
use Rattle.std.specs.List.{sum_by}
use Rattle.account_mappings.specs.Drawing.{weight_of}
use Rattle.account_mappings.proofs.Draws.{exceeds}
use Rattle.account_mappings.proofs.account_map.exceed.Given as goal

abbrev pub invariant-loop-destination : goal.invariant-loop-destination
invariant-loop-destination l = record {
  found : exceeds l.total (drop l.destination-index l.destinations) ≡ ltb 100 (sum_by weight_of l.destinations);
  low : l.total ≤ 100;
}
