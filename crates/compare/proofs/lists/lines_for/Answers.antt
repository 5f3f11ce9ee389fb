-- without permissions of their own both have the default lists
use Rattle.compare.proofs.Lines.{between_same}
use Rattle.compare.proofs.lists.lines_for.Goals as goal

pub lines_by-requires : goal.lines_by-requires
lines_by-requires c = between_same _ _ _ _ c.args.usual.now (c.requires.old.usual c.if-pair.false) (c.requires.new.usual c.if-pair-2.false) c.requires.usual
