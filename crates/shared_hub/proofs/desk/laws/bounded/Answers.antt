use Rattle.shared_hub.proofs.desk.Weights.{stays_entering, stays_leaving}
use Rattle.shared_hub.proofs.desk.laws.bounded.Goals as goal

pub returns-clause-entering : goal.returns-clause-entering
returns-clause-entering c = stays_entering

pub returns-clause-leaving : goal.returns-clause-leaving
returns-clause-leaving c = stays_leaving
