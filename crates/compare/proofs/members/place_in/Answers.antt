-- the closure compares a user's name with the captured one
use Rattle.std.proofs.Common.{rules}
use Rattle.std.specs.Ordering.{nat_cmp}
use Rattle.std.specs.Cmp.Lexicographic.{slice_cmp}
use Rattle.std.proofs.lemmas.Fn.{always_returns_same}
use Rattle.compare.proofs.Finding.{ends}
use Rattle.compare.specs.Members.{name_of}
use Rattle.compare.specs.declared.members.Member.{Member}
use Rattle.compare.proofs.members.place_in.Goals as goal

pub returns-clause-place : goal.returns-clause-place
returns-clause-place c = λ sorted.
    let facts = c.binary_search_by.ensures in
    ends c.args.name.now c.args.members.now sorted _ facts.bound
    (facts.position (λ (m : Member). slice_cmp nat_cmp (name_of m) c.args.name.now) (always_returns_same _ _ _ (λ a r f' called. search rules)))
