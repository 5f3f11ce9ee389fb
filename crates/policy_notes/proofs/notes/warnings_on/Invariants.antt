-- a text for each key so far
use Rattle.std.proofs.Common.{◌≡◌, map, string_bytes, take}
use Rattle.policy_notes.specs.positions.Repeats.{repeated}
use Rattle.policy_notes.specs.Notes.{warning}
use Rattle.policy_notes.proofs.notes.warnings_on.Given as goal

abbrev pub invariant-loop-repeat : goal.invariant-loop-repeat
invariant-loop-repeat l = map string_bytes l.warnings.items ≡ map (λ r. warning l.text (repeated r)) (take l.repeat-index l.repeats)
