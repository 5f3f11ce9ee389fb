use Rattle.std.proofs.Common.{List, ℕ, Bor}
use Rattle.pattern_sets.proofs.Exact.{has_none}
use Rattle.pattern_sets.proofs.sets.is_within.Goals as goal

pub returns : goal.returns
returns c =
    let of = λ (p : Bor (List (List ℕ))). p.now in
    has_none of c.args.set.patterns.now c.args.set.less.now c.args.other.patterns.now c.args.other.less.now c.in_ok-found.found (λ t. t.items) c.is_none.result c.is_none.ensures c.in_ok-found.ensures
