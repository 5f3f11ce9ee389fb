-- each element's part is copied in turn
use Rattle.std.proofs.Common.{◌∙◌, ◌-◌, ℕ, min, ap, sym, flat_map}
use Rattle.stores.proofs.outbox.Copies.{one_more_copied, one_less_left, all_copied, none_more}
use Rattle.stores.proofs.outbox.bounded.copy_some.Goals as goal

pub loop-item-preserved : goal.loop-item-preserved
loop-item-preserved g c =
    let each = g.T.Several.each in
    let items = c.args.items.now in
    let i = c.loop-item.item-index in
    let x = c.item-item.result in
    let gone = c.loop-item.gone in
    let left = c.loop-item.left in
    let skipped = c.min-skipped.ensures ∙ ap (λ (k : ℕ). min gone k) c.count-count.ensures.all in
    let wanted = c.min-wanted.ensures ∙ ap (λ (k : ℕ). min left (k - c.min-skipped.result)) c.count-count.ensures.all in
    record {
      copied = one_more_copied each items i x (flat_map each c.loop-item.copies.items) (flat_map each c.copy_part.new.copies.items) gone left c.min-skipped.result c.min-wanted.result c.loop-item-test.true c.item-item.is skipped wanted c.in_ok-copy_part.ensures ∙ c.loop-item.invariant.copied;
      left = one_less_left each items i x gone left c.min-skipped.result c.min-wanted.result c.loop-item-test.true c.item-item.is skipped wanted ∙ c.loop-item.invariant.left;
    }

pub returns : goal.returns
returns g c =
    let each = g.T.Several.each in
    let items = c.args.items.now in
    let i = c.loop-item.item-index in
    record {
      copied = sym (all_copied each items i (flat_map each c.loop-item.copies.items) c.loop-item.gone c.loop-item.left c.loop-item-test.false) ∙ c.loop-item.invariant.copied;
      left = none_more each items i c.loop-item.gone c.loop-item.left c.loop-item-test.false ∙ c.loop-item.invariant.left;
    }
