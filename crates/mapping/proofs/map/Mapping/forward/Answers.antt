use Rattle.std.proofs.Common.{subst}
use Rattle.mapping.specs.Pairs.{RowMap, IsPair, IsSide}
use Rattle.mapping.proofs.Made.{sides_forward, pairs_forward}
use Rattle.mapping.proofs.map.Mapping.forward.Goals as goal

pub carry-requires : goal.carry-requires
carry-requires c = sides_forward c.self.inside.outer c.self.inside.local c.self.invariant.0 c.self.invariant.1

pub returns-clause-pairs : goal.returns-clause-pairs
returns-clause-pairs c =
    subst (λ (m : RowMap). IsSide (IsPair m c.args.subject.now) c.carry.result) c.self.view_is
    (pairs_forward c.self.inside.outer c.self.inside.local c.args.subject.now c.carry.result c.self.invariant.0 c.tokens.ensures.grammar c.carry.ensures)
