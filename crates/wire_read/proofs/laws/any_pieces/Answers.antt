use Rattle.wire_read.proofs.CutLemmas.{any_pieces_lem}
use Rattle.wire_read.proofs.laws.any_pieces.Goals as goal

pub returns : goal.returns
returns c = any_pieces_lem
