use Rattle.std.proofs.Common.{eqb, subst, sym}
use Rattle.std.proofs.lemmas.List.Filters.{dedup_is}
use Rattle.sublist.specs.Pairs.{IsMatching}
use Rattle.sublist.proofs.Reached.{matches_exactly}
use Rattle.sublist.proofs.Index.{matching_of_index}
use Rattle.sublist.proofs.tree.Sublist.matching_into.Goals as goal

exactly : (c : goal.After-dedup) → IsMatching c.args.self.now c.args.subject.now c.dedup.new.self.items
exactly c =
    let found = rw (c.clear.ensures.items, c.tokens.ensures.tokens) at c.in-Ok.ensures in
    let once = dedup_is eqb _ _ c.dedup.ensures.filtered in
    subst (IsMatching c.args.self.now c.args.subject.now) (sym once)
    (matches_exactly c.args.self.now c.args.subject.now c.tokens.ensures.grammar _ (rw found at c.sort_unstable.ensures.permutation) c.sort_unstable.ensures.sorted)

pub returns-in-Ok-clause-pairs : goal.returns-in-Ok-clause-pairs
returns-in-Ok-clause-pairs c = exactly c

pub returns-in-Ok-clause-index : goal.returns-in-Ok-clause-index
returns-in-Ok-clause-index c = λ pairs index. matching_of_index pairs c.args.self.now c.args.subject.now c.dedup.new.self.items index (exactly c)
