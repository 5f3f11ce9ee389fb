-- the parts that are left lead from here to the same
use Rattle.std.proofs.Common.{◌≡◌, None, length}
use Rattle.policy_notes.specs.positions.Names.{named_from}
use Rattle.policy_notes.proofs.positions.names.named_from.Given as goal

abbrev pub invariant-loop-part : goal.invariant-loop-part
invariant-loop-part l = named_from l.spots l.container l.at l.parts ≡ named_from l.spots l.fn.begin None l.initial.parts

abbrev pub decreases-loop-part : goal.decreases-loop-part
decreases-loop-part l = length l.parts
