-- the starts so far, and those of what is left, make the whole
use Rattle.std.proofs.Common.{◌≡◌, ◌++◌, drop}
use Rattle.policy_notes.specs.positions.Starts.{starts_from}
use Rattle.policy_notes.specs.declared.positions.starts.Mode.TheVariants.{Between}
use Rattle.policy_notes.proofs.positions.starts.starts_of.Given as goal

abbrev pub invariant-loop-at : goal.invariant-loop-at
invariant-loop-at l = l.starts.items ++ starts_from l.at l.mode (drop l.at l.text) ≡ starts_from 0 Between l.text
