-- what is seen of one more, behind those before it
use Rattle.std.proofs.Common.{◌∙◌, ◌++◌, ◌∷◌, [], List, ap, sym}
use Rattle.service_exporter.specs.Routes.{Exporter, pruned_of}
use Rattle.service_routes.specs.Routes.{Name}
use Rattle.service_routes.proofs.Maps.{more_seen}
use Rattle.service_routes.proofs.routes.plain_at.Goals as goal

pub returns-in_ok-push-in-Some : goal.returns-in_ok-push-in-Some
returns-in_ok-push-in-Some c =
    let before : List (Name × Exporter) = c.args.all.now.items in
    let name : Name = c.in-Some.name.now in
    let part : Exporter = c.in-Some.part.now.exporter in
    let with_more : List (Name × Exporter) → List (Name × Exporter) = λ es. es ++ (name, pruned_of c.args.now part) ∷ [] in
    let and_one : Name × Exporter → List (Name × Exporter) = λ e. before ++ e ∷ [] in
    c.in_ok-push-in-Some.ensures.items
    ∙ ap and_one c.in_ok-of-in-Some.ensures
    ∙ ap with_more c.requires
    ∙ more_seen c.args.now c.args.exporters.now.entries c.args.place name c.in-Some.part.now (sym c.in-Some.ensures.entry)
