-- the reasons of the entries so far
use Rattle.std.proofs.Common.{◌≡◌, map, take}
use Rattle.std.specs.List.{filter}
use Rattle.message_changes.specs.Reasons.{reason_view, takes, view_in}
use Rattle.message_changes.proofs.form.reasons_of.Given as goal

abbrev pub invariant-loop-entry : goal.invariant-loop-entry
invariant-loop-entry l = map reason_view l.all.items ≡ map (view_in l.form l.any) (filter (takes l.form) (take l.entry-index l.entries))
