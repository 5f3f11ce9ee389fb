-- there is room for those behind the first ones
use Rattle.std.proofs.Common.{◌≡◌, ◌≤◌, length, drop}
use Rattle.world_views.specs.Changing.{HaveRoom}
use Rattle.world_views.proofs.changing.make_room.Given as goal

abbrev pub invariant-loop-left : goal.invariant-loop-left
invariant-loop-left l = record {
  same : l.routes.exporters ≡ l.initial.routes.exporters;
  room : HaveRoom l.now (drop l.left l.openings) l.routes;
  within : l.left ≤ length l.openings;
}

abbrev pub decreases-loop-left : goal.decreases-loop-left
decreases-loop-left l = l.left
