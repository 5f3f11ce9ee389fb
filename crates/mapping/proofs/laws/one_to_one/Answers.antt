use Rattle.mapping.proofs.Pairs.{one}
use Rattle.mapping.proofs.laws.one_to_one.Goals as goal

pub returns : goal.returns
returns c = one
