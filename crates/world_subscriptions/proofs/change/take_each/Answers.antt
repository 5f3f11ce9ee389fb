use Rattle.std.proofs.Common.{◌∙◌, ap, sym, List, ℕ}
use Rattle.std.specs.Map.{values_of}
use Rattle.world_rows.specs.declared.subscription.Subscription.{Subscription}
use Rattle.world_subscriptions.proofs.BySid.{one_out, without}
use Rattle.world_subscriptions.proofs.change.take_each.Goals as goal

pub loop-id-preserved : goal.loop-id-preserved
loop-id-preserved c = record {
  left =
      ap (λ (ss : List Subscription). without c.next.new.self ss) c.take.ensures.left
      ∙ one_out c.in-Some.id.now c.next.new.self (values_of c.loop-id.by_id)
      ∙ ap (λ (ids : List ℕ). without ids (values_of c.loop-id.by_id)) (sym c.in-Some.ensures.steps)
      ∙ c.loop-id.invariant.left;
  table = c.take.ensures.table;
}
