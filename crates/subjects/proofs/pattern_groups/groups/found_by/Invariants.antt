-- those found by the hashes of the fronts that were asked
use Rattle.std.proofs.Common.{length, option_copied}
use Rattle.base.specs.Pieces.{pieces_left}
use Rattle.subjects.specs.pattern_groups.Hashes.{IsOfFront}
use Rattle.subjects.specs.pattern_groups.Links.{AreFoundBut}
use Rattle.subjects.proofs.pattern_groups.groups.found_by.Given as goal

abbrev pub invariant-loop-rest : goal.invariant-loop-rest
invariant-loop-rest g l = AreFoundBut (g.P.Patterns.passes l.patterns) l.hashes (λ k. IsOfFront k l.hash (pieces_left 46 (option_copied l.rest))) l.found.items

abbrev pub decreases-loop-rest : goal.decreases-loop-rest
decreases-loop-rest g l = length (pieces_left 46 (option_copied l.rest))
