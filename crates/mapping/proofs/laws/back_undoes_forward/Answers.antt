use Rattle.mapping.proofs.Pairs.{forward_pairs, back_pairs, undoes}
use Rattle.mapping.proofs.laws.back_undoes_forward.Goals as goal

pub returns-clause-forward : goal.returns-clause-forward
returns-clause-forward c = forward_pairs

pub returns-clause-back : goal.returns-clause-back
returns-clause-back c = back_pairs

pub returns-clause-undoes : goal.returns-clause-undoes
returns-clause-undoes c = undoes
