use Rattle.compare.proofs.lists.lines_by.Goals as goal

pub lines_of-requires : goal.lines_of-requires
lines_of-requires c = c.requires.changes

pub returns : goal.returns
returns c = record { found = c.args.found.now; between = c.requires; each = c.in_ok-lines.ensures.each; verdicts = c.in_ok-lines.ensures.verdicts }
