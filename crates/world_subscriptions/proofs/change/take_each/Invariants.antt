-- without the ids that are left, what is left is what is without all of them
use Rattle.std.proofs.Common.{◌≡◌}
use Rattle.std.specs.HashMap.{values}
use Rattle.std.specs.Map.{values_of}
use Rattle.world_subscriptions.specs.Index.{IsTable}
use Rattle.world_subscriptions.proofs.BySid.{without}
use Rattle.world_subscriptions.proofs.change.take_each.Given as goal

abbrev pub invariant-loop-id : goal.invariant-loop-id
invariant-loop-id l = record {
  left : without l.id-iterator (values_of l.by_id) ≡ without (values l.own) (values_of l.initial.by_id);
  table : IsTable l.by_id l.trees;
}
