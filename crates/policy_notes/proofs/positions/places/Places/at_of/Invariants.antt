-- fewer parts are left each time
use Rattle.std.proofs.Common.{length}
use Rattle.policy_notes.proofs.positions.places.Places.at_of.Given as goal

abbrev pub decreases-loop-part : goal.decreases-loop-part
decreases-loop-part l = length l.parts
