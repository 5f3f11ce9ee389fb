-- what is left, from what was found so far, leads to the same
use Rattle.std.proofs.Common.{◌≡◌, None, drop}
use Rattle.policy_notes.specs.positions.Names.{last_of}
use Rattle.policy_notes.proofs.positions.names.last_of.Given as goal

abbrev pub invariant-loop-spot : goal.invariant-loop-spot
invariant-loop-spot l = last_of l.container l.part l.found (drop l.spot-index l.spots) ≡ last_of l.container l.part None l.spots
