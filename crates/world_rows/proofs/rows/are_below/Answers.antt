-- the last row has the greatest id
use Rattle.std.proofs.Common.{◌<◌, subst, arith}
use Rattle.std.proofs.lemmas.Bool.Decides.{nat_tests}
use Rattle.world_rows.specs.declared.rows.Row.{Row}
use Rattle.world_rows.proofs.Places.{below_last}
use Rattle.world_rows.proofs.rows.are_below.Goals as goal

pub returns-in-None : goal.returns-in-None
returns-in-None c = λ yes. below_last c.args.id c.args.rows.now c.requires (λ d some. let none = c.in-None.ensures.item.3 in absurd (omega (arith, some, none)))

pub returns-in-Some : goal.returns-in-Some
returns-in-Some c = λ below. below_last c.args.id c.args.rows.now c.requires (λ d some.
    subst (λ (r : Row). r.id < c.args.id) (c.in-Some.ensures.item.3.1 d) (grind (arith, nat_tests, below)))
