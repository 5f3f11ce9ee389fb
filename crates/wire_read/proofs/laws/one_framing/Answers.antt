use Rattle.wire_read.proofs.GrammarLemmas.{has_framing, has_one_framing}
use Rattle.wire_read.proofs.laws.one_framing.Goals as goal

pub returns-clause-found : goal.returns-clause-found
returns-clause-found c = has_framing

pub returns-clause-only : goal.returns-clause-only
returns-clause-only c = has_one_framing
