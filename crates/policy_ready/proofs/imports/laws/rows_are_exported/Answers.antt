use Rattle.policy_ready.proofs.imports.Crossed.{rows_exported}
use Rattle.policy_ready.proofs.imports.laws.rows_are_exported.Goals as goal

pub returns : goal.returns
returns c = rows_exported
