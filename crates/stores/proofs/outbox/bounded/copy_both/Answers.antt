-- the batch, and then the two parts of the ring
use Rattle.stores.proofs.outbox.Copies.{three_copied}
use Rattle.stores.proofs.outbox.bounded.copy_both.Goals as goal

pub returns : goal.returns
returns g c =
    three_copied g.T.Several.each c.in_ok-copies.copies.items c.copy_some.new.copies.items c.copy_some-2.new.copies.items c.copy_some-3.new.copies.items c.args.items.now c.as_slices.result.0.now c.as_slices.result.1.now c.args.ring.now.items
    c.args.gone c.args.most c.in_ok-left.left c.in_ok-more.more c.in_ok-copies.ensures.items c.as_slices.ensures
    c.in_ok-left.ensures.copied c.in_ok-left.ensures.left c.in_ok-more.ensures.copied c.in_ok-more.ensures.left c.in_ok-_none.ensures.copied
