use Rattle.std.proofs.Common.{subst}
use Rattle.mapping.specs.Pairs.{RowMap, IsPair, IsMapped, IsSide, back}
use Rattle.mapping.proofs.Made.{sides_back, mapped_back, pairs_back}
use Rattle.mapping.proofs.map.Mapping.back.Goals as goal

pub carry-requires : goal.carry-requires
carry-requires c = sides_back c.self.inside.outer c.self.inside.local c.self.invariant.0 c.self.invariant.1

pub returns-clause-value : goal.returns-clause-value
returns-clause-value c =
    subst (λ (m : RowMap). IsMapped (back m c.args.subject.now) c.carry.result) c.self.view_is
    (mapped_back c.self.inside.outer c.self.inside.local c.args.subject.now c.carry.result c.self.invariant.1 c.carry.ensures)

pub returns-clause-pairs : goal.returns-clause-pairs
returns-clause-pairs c =
    subst (λ (m : RowMap). IsSide (λ s. IsPair m s c.args.subject.now) c.carry.result) c.self.view_is
    (pairs_back c.self.inside.outer c.self.inside.local c.args.subject.now c.carry.result c.self.invariant.0 c.self.invariant.1 c.tokens.ensures.grammar c.carry.ensures)
