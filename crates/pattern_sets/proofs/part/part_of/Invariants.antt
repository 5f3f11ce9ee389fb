-- what is left has a part, which completes what was taken, and fewer tokens are left each time
use Rattle.std.proofs.Common.{◌≡◌, ◌++◌, length, map, true}
use Rattle.std.specs.Prelude.{is_some}
use Rattle.std.specs.Option.{option_map}
use Rattle.pattern_sets.specs.Samples.{part}
use Rattle.pattern_sets.proofs.part.part_of.Given as goal

abbrev pub invariant-loop-token : goal.invariant-loop-token
invariant-loop-token l =
    (is_some (part l.length.has_tail l.left l.rest) ≡ true)
    × (option_map (λ us. map (λ t. t.now) l.part.items ++ us) (part l.length.has_tail l.left l.rest) ≡ part l.length.has_tail l.length.tokens l.pattern)

abbrev pub decreases-loop-token : goal.decreases-loop-token
decreases-loop-token l = length l.rest
