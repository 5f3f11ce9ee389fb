-- what lives of the exporter stays
use Rattle.std.proofs.Common.{◌∙◌, List, ap, sym}
use Rattle.service_exporter.specs.Routes.{WithRoom}
use Rattle.service_routes.specs.Routes.{Name, pruned}
use Rattle.service_routes.specs.Tables.{exporters_in}
use Rattle.service_routes.proofs.Maps.{pruned-there}
use Rattle.service_routes.proofs.routes.drop_dead_of.Goals as goal

pub returns-in-Some-clause-exporters : goal.returns-in-Some-clause-exporters
returns-in-Some-clause-exporters c =
    let written = c.get_mut.follows.holds c.drop_two.new.part in
    ap (λ (es : List (Name × WithRoom)). pruned c.args.now (exporters_in es)) written.0
    ∙ pruned-there c.args.exporter.now c.args.now c.args.exporters.now.entries c.in-Some.part.now c.drop_two.new.part (sym c.in-Some.ensures.value) c.drop_two.ensures.exporter
