-- the text is cut where its first separator is
use Rattle.std.proofs.Common.{arith, sym, ◌∙◌}
use Rattle.std.proofs.lemmas.Grind.{common_steps}
use Rattle.base.proofs.Cuts.{pieces_of-cut, pieces_of-whole}
use Rattle.base.proofs.pieces.cut_first.Goals as goal

pub returns-in-None : goal.returns-in-None
returns-in-None c = pieces_of-whole c.args.separator c.args.text.now (sym c.first_separator.ensures ∙ c.in-None.is)

pub returns-in-Some : goal.returns-in-Some
returns-in-Some c =
    let cut = pieces_of-cut c.args.separator c.args.text.now c.in-Some.at (sym c.first_separator.ensures ∙ c.in-Some.is) in
    grind (arith, common_steps)
