-- the exporters so far have their rows
use Rattle.std.proofs.Common.{◌≡◌, ◌≤◌, List, length}
use Rattle.indexmap.specs.IndexMap.{spare}
use Rattle.service_exporter.specs.Routes.{WithRoom, kept_of}
use Rattle.service_routes.specs.Routes.{Name, kept}
use Rattle.service_routes.specs.Tables.{exporters_in, room_in, so_far}
use Rattle.service_routes.proofs.routes.keep_all.Given as goal

abbrev pub invariant-loop-place : goal.invariant-loop-place
invariant-loop-place g l = record {
  changed : so_far (kept_of (g.S.ServiceRows.renewed l.rows)) l.place (exporters_in l.exporters.entries) ≡ kept (g.S.ServiceRows.renewed l.rows) (exporters_in l.initial.exporters.entries);
  rooms : (other : Name) (ready : List (Name × WithRoom)) → room_in other l.initial.exporters.entries ready ≤ room_in other l.exporters.entries ready;
  room : spare l.exporters ≡ spare l.initial.exporters;
  held : length l.exporters.entries ≡ length l.initial.exporters.entries;
  end : l.place-end ≡ length l.initial.exporters.entries;
  upto : l.place ≤ l.place-end;
}
