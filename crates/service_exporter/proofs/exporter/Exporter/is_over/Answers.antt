-- no more live than there are slots
use Rattle.std.proofs.Common.{◌≡◌, arith, false, length, nat_lt, subst}
use Rattle.service_exporter.specs.Routes.{WithRoom, living}
use Rattle.service_exporter.specs.Slots.{standing_in}
use Rattle.service_exporter.proofs.Limits.{below_not}
use Rattle.service_exporter.proofs.Places.{living_within}
use Rattle.service_exporter.proofs.exporter.Exporter.is_over.Goals as goal

pub returns-then-len-most-clause-over : goal.returns-then-len-most-clause-over
returns-then-len-most-clause-over c =
    let slots = c.self.inside.slots.items in
    subst (λ (w : WithRoom). false ≡ nat_lt c.args.most (length (living c.args.now w.exporter.routes))) c.self.view_is
    (below_not c.args.most (length (living c.args.now (standing_in slots))) (length slots) (living_within c.args.now slots)
    (let h = c.if-len-most.true in let l = c.len.ensures in omega (arith, h, l)))
