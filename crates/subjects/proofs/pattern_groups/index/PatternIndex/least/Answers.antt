use Rattle.std.proofs.Common.{sym, subst}
use Rattle.subjects.specs.pattern_groups.Links.{IsLeast, IsLeastBelow}
use Rattle.subjects.proofs.pattern_groups.index.PatternIndex.least.Goals as goal

pub returns : goal.returns
returns g c =
    let passes = g.P.Patterns.passes c.args.patterns.now in
    subst (λ n. IsLeast passes n c.place_below.result) c.len.ensures
    (c.place_below.ensures passes (subst (λ n. IsLeastBelow passes n c.least_place.result) (sym c.len.ensures) c.least_place.ensures))
