use Rattle.sublist.proofs.Changes.{last_or_nowhere}
use Rattle.sublist.proofs.tree.Sublist.contains.Goals as goal

pub contains-requires : goal.contains-requires
contains-requires c = rw c.tokens.ensures.tokens (last_or_nowhere c.args.pattern.now c.tokens.ensures.grammar)
