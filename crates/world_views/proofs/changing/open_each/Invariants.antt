-- those that are still to be opened have room, and with them all are opened
use Rattle.std.proofs.Common.{◌≡◌, All}
use Rattle.service_routes.specs.Routes.{pruned}
use Rattle.world_views.specs.Changing.{opened_each, HaveRoom, IsNotedAt}
use Rattle.world_views.proofs.changing.open_each.Given as goal

abbrev pub invariant-loop-opening : goal.invariant-loop-opening
invariant-loop-opening l = record {
  opened : opened_each l.opening-iterator.rest.items (pruned l.now l.routes.exporters) ≡ opened_each l.fn.openings.items (pruned l.now l.fn.routes.exporters);
  room : HaveRoom l.now l.opening-iterator.rest.items l.routes;
  noted : All (IsNotedAt l.now) l.opening-iterator.rest.items;
}
