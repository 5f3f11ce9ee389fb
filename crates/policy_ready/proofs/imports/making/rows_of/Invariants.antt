-- the rows of the accounts so far
use Rattle.std.proofs.Common.{◌≡◌, take}
use Rattle.std.specs.Prelude.{All}
use Rattle.std.specs.List.{flat_map}
use Rattle.policy_ready.specs.imports.Views.{rows_in}
use Rattle.policy_ready.specs.imports.Rows.{IsRow}
use Rattle.policy_ready.proofs.imports.making.rows_of.Given as goal

abbrev pub invariant-loop-named : goal.invariant-loop-named
invariant-loop-named l = (l.rows.items ≡ flat_map rows_in (take l.named-index l.accounts)) × All IsRow l.rows.items
