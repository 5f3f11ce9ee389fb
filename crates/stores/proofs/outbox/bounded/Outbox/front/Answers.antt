-- the front of what waits is that of the batch and the ring
use Rattle.std.proofs.Common.{◌∙◌, ap, take}
use Rattle.stores.specs.outbox.Bounded.{batched}
use Rattle.stores.proofs.outbox.Batches.{same_waiting, whole_front, front_length}
use Rattle.stores.proofs.outbox.bounded.Outbox.front.Goals as goal

pub from_vec-requires : goal.from_vec-requires
from_vec-requires g c =
    let o = c.self.inside in
    front_length g.T.Several.each (batched o.batch) o.ring.items o.gone o.waiting o.ring.capacity c.args.most c.min-count.result _ _ c.self.invariant c.min-count.ensures c.in_batch.ensures c.in_ok-copies.ensures

pub returns : goal.returns
returns g c =
    let o = c.self.inside in
    c.in_ok-front.ensures
    ∙ whole_front g.T.Several.each (batched o.batch) o.ring.items o.gone o.waiting o.ring.capacity c.args.most c.min-count.result _ _ c.self.invariant c.min-count.ensures c.in_batch.ensures c.in_ok-copies.ensures
    ∙ ap (take c.args.most) (same_waiting c.self.view_is)
