-- the map knows what was seen, and what is left completes the whole
use Rattle.std.proofs.Common.{◌≡◌, ◌++◌, drop, map}
use Rattle.std.specs.BTreeMap.{get}
use Rattle.policy_notes.specs.positions.Repeats.{repeated, repeats_behind, repeats_of, Seen}
use Rattle.policy_notes.proofs.positions.Seen.{order, Key}
use Rattle.policy_notes.proofs.positions.repeats.repeats_of.Given as goal

abbrev pub invariant-loop-spot : goal.invariant-loop-spot
invariant-loop-spot l =
    (known : Seen) × ((k : Key) → get order l.seen k ≡ known k.0 k.1.now)
    × (map repeated l.repeats.items ++ repeats_behind known (drop l.spot-index l.spots) ≡ repeats_of l.spots)
