-- the rows so far, and those of the imports that are left, are all
use Rattle.std.proofs.Common.{◌≡◌, ◌++◌, drop}
use Rattle.std.specs.Prelude.{All}
use Rattle.policy_ready.specs.imports.Views.{rows_from}
use Rattle.policy_ready.specs.imports.Rows.{IsRow}
use Rattle.policy_ready.proofs.imports.making.add_rows.Given as goal

abbrev pub invariant-loop-index : goal.invariant-loop-index
invariant-loop-index l =
    (l.rows.items ++ rows_from l.named.name l.index (drop l.index l.named.account.imports) ≡ l.initial.rows.items ++ rows_from l.named.name 0 l.named.account.imports)
    × All IsRow l.rows.items
