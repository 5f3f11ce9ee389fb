-- the element at the place is divided
use Rattle.std.proofs.Common.{sym, arith}
use Rattle.stores.proofs.outbox.Parts.{part_of, take_part}
use Rattle.stores.proofs.outbox.bounded.part_at.Goals as goal

pub first_part-requires-clause-within : goal.first_part-requires-clause-within
first_part-requires-clause-within g c =
    omega (arith, part_of g.T.Several.each c.args.ring.now.items c.args.place c.args.count c.in-Some.item.now (sym c.in-Some.ensures) c.requires)

pub returns-in_ok-part-in-Some : goal.returns-in_ok-part-in-Some
returns-in_ok-part-in-Some g c =
    let each = g.T.Several.each in
    let items = c.args.ring.now.items in
    let item = c.in-Some.item.now in
    let there = sym c.in-Some.ensures in
    take_part each items c.args.place c.args.count item c.in_ok-part-in-Some.part there (part_of each items c.args.place c.args.count item there c.requires) c.in_ok-part-in-Some.ensures
