use Rattle.policy_ready.proofs.imports.Crossed.{by_pairs}
use Rattle.policy_ready.proofs.imports.laws.crosses_by_pairs.Goals as goal

pub returns : goal.returns
returns c = by_pairs
