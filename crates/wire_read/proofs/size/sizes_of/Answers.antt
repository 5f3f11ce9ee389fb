use Rattle.wire_read.proofs.SizeLemmas.{sizes_within}
use Rattle.wire_read.proofs.size.sizes_of.Goals as goal

pub returns-else-head-most : goal.returns-else-head-most
returns-else-head-most c =
    sizes_within c.args.head.now c.args.total.now c.in-Some.head c.in-Ok.total c.in-Some.ensures c.in-Ok.ensures c.if-head-most.false
