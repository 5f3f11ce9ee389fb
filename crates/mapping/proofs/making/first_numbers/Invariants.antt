-- the numbers so far and those to come are all
use Rattle.std.proofs.Common.{◌≡◌, ◌+◌, ◌-◌, ◌++◌}
use Rattle.std.specs.List.{range_with_len}
use Rattle.mapping.proofs.making.first_numbers.Given as goal

abbrev pub invariant-loop-number : goal.invariant-loop-number
invariant-loop-number l = l.numbers.items ++ range_with_len l.number (l.count + 1 - l.number) ≡ range_with_len 1 l.count
