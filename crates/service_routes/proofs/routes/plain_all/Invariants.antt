-- what is seen of the exporters so far
use Rattle.std.proofs.Common.{◌≡◌, ◌≤◌, length, take}
use Rattle.service_routes.specs.Routes.{pruned}
use Rattle.service_routes.specs.Tables.{exporters_in}
use Rattle.service_routes.proofs.routes.plain_all.Given as goal

abbrev pub invariant-loop-place : goal.invariant-loop-place
invariant-loop-place l = record {
  plain : l.all.items ≡ take l.place (pruned l.now (exporters_in l.exporters.entries));
  end : l.place-end ≡ length l.exporters.entries;
  upto : l.place ≤ l.place-end;
}
