use Rattle.sublist.proofs.Changes.{last_or_nowhere, added}
use Rattle.sublist.proofs.tree.Sublist.insert.Goals as goal

pub insert-requires : goal.insert-requires
insert-requires c = rw c.tokens.ensures.tokens (last_or_nowhere c.args.pattern.now c.tokens.ensures.grammar)

pub returns-clause-added : goal.returns-clause-added
returns-clause-added c = added c.args.pattern.now c.args.id c.args.self.now.root c.insert.new.self (rw c.tokens.ensures.tokens at c.in_ok-insert.ensures.ok)
