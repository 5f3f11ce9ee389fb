use Rattle.std.proofs.Common.{subst, sym}
use Rattle.std.specs.List.Sorted.{IsSortedByKey}
use Rattle.std.specs.Ordering.{nat_cmp}
use Rattle.std.specs.Cmp.Lexicographic.{slice_cmp}
use Rattle.compare.proofs.Finding.{named}
use Rattle.compare.specs.Members.{name_of, IsFoundIn}
use Rattle.compare.proofs.members.Members.named.Goals as goal

pub returns : goal.returns
returns c = λ doc are.
    let same = c.as_slice.ensures.value in
    let found = c.named_in.ensures (subst (IsSortedByKey name_of (slice_cmp nat_cmp)) (sym same) are.sorted) in
    named doc c.args.self.now are c.args.name.now _ (subst (λ ms. IsFoundIn ms c.args.name.now c.named_in.result) same found)
