-- what is appended, with what is left, are all queue parts
use Rattle.std.proofs.Common.{◌≡◌, ◌++◌, drop, map}
use Rattle.message_changes.specs.Reasons.{parts_of}
use Rattle.message_changes.proofs.reasons.add_queues.Given as goal

abbrev pub invariant-loop-entry : goal.invariant-loop-entry
invariant-loop-entry l = map (λ p. p.now) l.all.items ++ parts_of (drop l.entry-index l.entries) ≡ map (λ p. p.now) l.fn.all.items ++ parts_of l.entries
