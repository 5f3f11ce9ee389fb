-- the parts of the reasons so far
use Rattle.std.proofs.Common.{◌≡◌, map, take}
use Rattle.std.specs.Option.{option_map}
use Rattle.pattern_sets.specs.Asking.{part_view, reason_part}
use Rattle.pattern_sets.proofs.search.parts_of.Given as goal

abbrev pub invariant-loop-reason : goal.invariant-loop-reason
invariant-loop-reason l = map (option_map part_view) l.parts.items ≡ map (reason_part l.length.has_tail l.length.tokens) (take l.reason-index l.reasons)
