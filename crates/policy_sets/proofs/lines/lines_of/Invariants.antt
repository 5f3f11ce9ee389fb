-- the lines of the sets so far
use Rattle.std.proofs.Common.{◌≡◌, take}
use Rattle.policy_sets.specs.Lines.{lines_of}
use Rattle.policy_sets.proofs.lines.lines_of.Given as goal

abbrev pub invariant-loop-set : goal.invariant-loop-set
invariant-loop-set l = l.lines.items ≡ lines_of (take l.set-index l.sets)
