-- the patterns of the entries so far are appended
use Rattle.std.proofs.Common.{◌≡◌, ◌++◌, map, take}
use Rattle.message_changes.specs.Reasons.{subject_of}
use Rattle.message_changes.proofs.reasons.add_subjects.Given as goal

abbrev pub invariant-loop-entry : goal.invariant-loop-entry
invariant-loop-entry l = map (λ p. p.now) l.all.items ≡ map (λ p. p.now) l.fn.all.items ++ map subject_of (take l.entry-index l.entries)
