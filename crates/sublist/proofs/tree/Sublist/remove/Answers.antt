use Rattle.sublist.proofs.Changes.{last_or_nowhere, removed}
use Rattle.sublist.proofs.tree.Sublist.remove.Goals as goal

pub remove-requires : goal.remove-requires
remove-requires c = rw c.tokens.ensures.tokens (last_or_nowhere c.args.pattern.now c.tokens.ensures.grammar)

pub returns-clause-removed : goal.returns-clause-removed
returns-clause-removed c = removed c.args.pattern.now c.args.id c.args.self.now.root c.remove.new.self (rw c.tokens.ensures.tokens at c.remove.ensures)
