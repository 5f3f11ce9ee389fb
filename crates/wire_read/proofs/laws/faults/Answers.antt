use Rattle.wire_read.proofs.GrammarLemmas.{is_shown, is_fault}
use Rattle.wire_read.proofs.laws.faults.Goals as goal

pub returns-clause-found : goal.returns-clause-found
returns-clause-found c = is_shown

pub returns-clause-read : goal.returns-clause-read
returns-clause-read c = is_fault
