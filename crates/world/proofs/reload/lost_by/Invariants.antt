-- what is lost so far, and what is left, of which none is refused yet; if each of those has its reason, all have
use Rattle.std.proofs.Common.{◌≡◌, ◌++◌, All}
use Rattle.std.specs.List.{filter_map}
use Rattle.world.specs.Changes.{lost_id}
use Rattle.world.specs.Reload.{removal_after, AllMayStand, IsReasonedVerdict}
use Rattle.world.proofs.reload.lost_by.Given as goal

abbrev pub invariant-loop-subscription : goal.invariant-loop-subscription
invariant-loop-subscription l = record {
  removed : l.lost.removed.items ++ filter_map (removal_after l.ready l.sessions) l.subscription-iterator
      ≡ filter_map (removal_after l.ready l.sessions) l.subscriptions;
  ids : l.lost.ids.items ++ filter_map (lost_id l.ready l.sessions) l.subscription-iterator
      ≡ filter_map (lost_id l.ready l.sessions) l.subscriptions;
  sound : AllMayStand l.sessions l.subscription-iterator;
  reason : All (IsReasonedVerdict l.ready l.sessions) l.subscription-iterator → All (IsReasonedVerdict l.ready l.sessions) l.subscriptions;
}
