-- the living route among the exporter's, if that is there
use Rattle.std.proofs.Common.{◌≡◌, ◌∙◌, ap, sym}
use Rattle.service_exporter.specs.Routes.{Exporter, no_routes, pruned_of, route_on}
use Rattle.service_routes.specs.Routes.{Table, exporter_of}
use Rattle.service_routes.proofs.Maps.{exporter-there, exporter-absent}
use Rattle.service_routes.proofs.Seen.{seen}
use Rattle.service_routes.proofs.routes.Routes.find_living.Goals as goal

pub returns-in-None : goal.returns-in-None
returns-in-None c =
    let none : exporter_of c.args.exporter.now c.args.self.now.exporters ≡ no_routes =
    ap (λ (t : Table). exporter_of c.args.exporter.now t.exporters) (sym c.self.view_is)
    ∙ exporter-absent c.args.exporter.now c.self.inside.exporters.entries (sym c.in-None.ensures.value)
    in
    sym (ap (λ (e : Exporter). route_on c.args.subject.now e.routes) (seen c.args.now c.args.exporter.now c.args.self.now.exporters ∙ ap (pruned_of c.args.now) none))

pub returns-in-Some : goal.returns-in-Some
returns-in-Some c =
    let it : exporter_of c.args.exporter.now c.args.self.now.exporters ≡ c.in-Some.part.now.exporter =
    ap (λ (t : Table). exporter_of c.args.exporter.now t.exporters) (sym c.self.view_is)
    ∙ exporter-there c.args.exporter.now c.self.inside.exporters.entries c.in-Some.part.now (sym c.in-Some.ensures.value)
    in
    c.find_living.ensures
    ∙ sym (ap (λ (e : Exporter). route_on c.args.subject.now e.routes) (seen c.args.now c.args.exporter.now c.args.self.now.exporters ∙ ap (pruned_of c.args.now) it))
