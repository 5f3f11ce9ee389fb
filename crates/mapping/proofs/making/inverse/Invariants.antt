-- the places so far and those to come are all
use Rattle.std.proofs.Common.{◌≡◌, ◌+◌, ◌-◌, ◌++◌, ◌==◌, map}
use Rattle.std.specs.List.{range_with_len, position_or_len}
use Rattle.mapping.specs.Pairs.{inverse}
use Rattle.mapping.proofs.making.inverse.Given as goal

abbrev pub invariant-loop-number : goal.invariant-loop-number
invariant-loop-number l =
    l.numbers.items ++ map (λ n. position_or_len (λ m. m == n) l.references + 1) (range_with_len l.number (l.count + 1 - l.number))
    ≡ inverse l.count l.references
