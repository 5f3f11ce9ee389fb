-- the exporter at the place is changed
use Rattle.std.proofs.Common.{sym, arith}
use Rattle.indexmap.proofs.CallerLemmas.{index_map_len-with_value_at}
use Rattle.service_exporter.specs.Routes.{kept_of}
use Rattle.service_routes.proofs.Maps.{mapped-next, room-at}
use Rattle.service_routes.proofs.routes.keep_at.Goals as goal

pub returns-in-Some-clause-exporters : goal.returns-in-Some-clause-exporters
returns-in-Some-clause-exporters g c = mapped-next (kept_of (g.S.ServiceRows.renewed c.args.rows.now)) c.args.exporters.now.entries c.args.place c.in-Some.part.now c.keep_rows.new.self (sym c.in-Some.ensures.value) c.keep_rows.ensures.exporter

pub returns-in-Some-clause-rooms : goal.returns-in-Some-clause-rooms
returns-in-Some-clause-rooms g c = λ other ready. room-at other c.args.exporters.now.entries ready c.args.place c.in-Some.part.now c.keep_rows.new.self (sym c.in-Some.ensures.value) (omega (arith, c.keep_rows.ensures.room))

pub returns-in-Some-clause-same : goal.returns-in-Some-clause-same
returns-in-Some-clause-same g c = index_map_len-with_value_at c.args.exporters.now c.args.place c.keep_rows.new.self
