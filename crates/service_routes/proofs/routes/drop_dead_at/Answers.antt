-- what lives of the exporter stays
use Rattle.std.proofs.Common.{sym}
use Rattle.service_routes.proofs.Maps.{pruned-at, room-at}
use Rattle.service_routes.proofs.routes.drop_dead_at.Goals as goal

pub returns-in-Some-clause-exporters : goal.returns-in-Some-clause-exporters
returns-in-Some-clause-exporters c = pruned-at c.args.now c.args.exporters.now.entries c.args.place c.in-Some.part.now c.drop_two.new.part (sym c.in-Some.ensures.value) c.drop_two.ensures.exporter

pub returns-in-Some-clause-rooms : goal.returns-in-Some-clause-rooms
returns-in-Some-clause-rooms c = λ other ready. room-at other c.args.exporters.now.entries ready c.args.place c.in-Some.part.now c.drop_two.new.part (sym c.in-Some.ensures.value) c.drop_two.ensures.room
