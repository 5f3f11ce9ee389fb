use Rattle.std.proofs.Common.{◌==◌, None}
use Rattle.mapping.proofs.Orders.{place_or_len}
use Rattle.mapping.proofs.making.place_of.Goals as goal

pub returns-in-None-clause-place : goal.returns-in-None-clause-place
returns-in-None-clause-place c = (place_or_len (λ n. n == c.args.number) c.args.numbers.now None c.in-None.ensures).0
