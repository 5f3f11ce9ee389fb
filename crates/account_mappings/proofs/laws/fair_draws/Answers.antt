use Rattle.account_mappings.proofs.Draws.{fair}
use Rattle.account_mappings.proofs.laws.fair_draws.Goals as goal

pub returns : goal.returns
returns c = fair
