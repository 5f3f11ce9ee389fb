-- what is left decides the same as the whole
use Rattle.std.proofs.Common.{◌≡◌, ◌≤◌, drop}
use Rattle.account_mappings.specs.Drawing.{chosen, weights_of}
use Rattle.account_mappings.proofs.Draws.{first_above}
use Rattle.account_mappings.proofs.choosing.chosen.Given as goal

abbrev pub invariant-loop-index : goal.invariant-loop-index
invariant-loop-index l = record {
  found : first_above l.draw l.total l.index (drop l.index l.destinations) ≡ chosen l.draw (weights_of l.destinations);
  low : l.total ≤ l.draw;
}
