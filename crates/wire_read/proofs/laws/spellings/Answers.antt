use Rattle.wire_read.proofs.GrammarLemmas.{is_spelled, is_read}
use Rattle.wire_read.proofs.laws.spellings.Goals as goal

pub returns-clause-found : goal.returns-clause-found
returns-clause-found c = is_spelled

pub returns-clause-read : goal.returns-clause-read
returns-clause-read c = is_read
