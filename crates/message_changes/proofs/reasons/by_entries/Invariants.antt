-- the reasons of the entries so far
use Rattle.std.proofs.Common.{◌≡◌, map, take}
use Rattle.message_changes.specs.Reasons.{allowing_view, first_of, reasons_by_entries, second_of}
use Rattle.message_changes.proofs.reasons.by_entries.Given as goal

abbrev pub invariant-loop-entry : goal.invariant-loop-entry
invariant-loop-entry l = map allowing_view l.all.items ≡ reasons_by_entries l.rules.kind l.rules.any.now (first_of l.rules) (second_of l.rules) (take l.entry-index l.entries)
