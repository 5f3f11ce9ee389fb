use Rattle.wire_read.proofs.CutLemmas.{cut_anywhere_lem}
use Rattle.wire_read.proofs.laws.cut_anywhere.Goals as goal

pub returns : goal.returns
returns c = cut_anywhere_lem
