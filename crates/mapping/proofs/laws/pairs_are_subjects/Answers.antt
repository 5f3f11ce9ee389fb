use Rattle.mapping.proofs.Pairs.{subjects}
use Rattle.mapping.proofs.laws.pairs_are_subjects.Goals as goal

pub returns : goal.returns
returns c = subjects
