-- the exporter's route ends, if the exporter is there
use Rattle.std.proofs.Common.{◌≡◌, ◌∙◌, ap, refl, sym}
use Rattle.service_exporter.specs.Routes.{spent_of}
use Rattle.service_routes.specs.Tables.{exporters_in}
use Rattle.service_routes.proofs.Maps.{changed-absent, changed-there}
use Rattle.service_routes.proofs.routes.spend_of.Goals as goal

pub returns-in-None-clause-exporters : goal.returns-in-None-clause-exporters
returns-in-None-clause-exporters c =
    let lent : c.get_mut.follows.lender-at-none.entries ≡ c.args.exporters.now.entries = rw c.get_mut.follows.holds-at-none refl in
    ap exporters_in lent ∙ sym (changed-absent c.args.exporter.now (spent_of c.args.subject.now) c.args.exporters.now.entries (sym c.in-None.ensures.value))

pub returns-in-Some-clause-exporters : goal.returns-in-Some-clause-exporters
returns-in-Some-clause-exporters c =
    let written = c.get_mut.follows.holds c.spend.new.self in
    ap exporters_in written.0
    ∙ changed-there c.args.exporter.now (spent_of c.args.subject.now) c.args.exporters.now.entries c.in-Some.part.now c.spend.new.self (sym c.in-Some.ensures.value) c.spend.ensures.exporter
