-- the exporter at the place is changed
use Rattle.std.proofs.Common.{sym}
use Rattle.indexmap.proofs.CallerLemmas.{index_map_len-with_value_at}
use Rattle.service_exporter.specs.Routes.{pruned_of}
use Rattle.service_routes.proofs.Maps.{mapped-next, room-at}
use Rattle.service_routes.proofs.routes.prune_at.Goals as goal

pub returns-in-Some-clause-exporters : goal.returns-in-Some-clause-exporters
returns-in-Some-clause-exporters c = mapped-next (pruned_of c.args.now) c.args.exporters.now.entries c.args.place c.in-Some.part.now c.prune.new.self (sym c.in-Some.ensures.value) c.prune.ensures.exporter

pub returns-in-Some-clause-rooms : goal.returns-in-Some-clause-rooms
returns-in-Some-clause-rooms c = λ other ready. room-at other c.args.exporters.now.entries ready c.args.place c.in-Some.part.now c.prune.new.self (sym c.in-Some.ensures.value) (c.prune.ensures.room)

pub returns-in-Some-clause-same : goal.returns-in-Some-clause-same
returns-in-Some-clause-same c = index_map_len-with_value_at c.args.exporters.now c.args.place c.prune.new.self
