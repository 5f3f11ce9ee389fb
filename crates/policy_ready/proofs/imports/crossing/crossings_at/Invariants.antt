-- the views across the rows at the places so far
use Rattle.std.proofs.Common.{◌≡◌, take}
use Rattle.std.specs.List.{filter_map}
use Rattle.policy_ready.specs.imports.Across.{crossing}
use Rattle.policy_ready.specs.imports.Views.{first_of_each}
use Rattle.policy_ready.specs.imports.Rows.{rows_at}
use Rattle.policy_ready.proofs.imports.crossing.crossings_at.Given as goal

abbrev pub invariant-loop-place : goal.invariant-loop-place
invariant-loop-place l = l.views.items ≡ first_of_each (filter_map (crossing l.account l.subject) (rows_at l.rows (take l.place-index l.places)))
