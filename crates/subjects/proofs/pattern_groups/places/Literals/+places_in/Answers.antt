use Rattle.std.proofs.Common.{arith}
use Rattle.subjects.proofs.pattern_groups.Literal.{twice}
use Rattle.subjects.proofs.pattern_groups.places.Literals.+places_in.Goals as goal

pub returns-then-not-is_star-clause-bound : goal.returns-then-not-is_star-clause-bound
returns-then-not-is_star-clause-bound t c = twice c.places_in.result c.args.most c.if-most-eq0.false c.places_in.ensures.bound

pub returns-in-All-clause-bound : goal.returns-in-All-clause-bound
returns-in-All-clause-bound t c =
    let more = twice c.places_in-in-All.result c.args.most c.if-most-eq0.false c.places_in-in-All.ensures.bound in
    omega (arith, more)
