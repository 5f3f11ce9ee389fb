-- one more copy, behind those before it
use Rattle.std.proofs.Common.{◌∙◌, ap, sym}
use Rattle.indexmap.specs.IndexMap.{insert_entry}
use Rattle.indexmap.proofs.CallerLemmas.{insert_entry-new}
use Rattle.service_routes.specs.Routes.{Name, same_name}
use Rattle.service_routes.proofs.Maps.{copied-absent, copied-more}
use Rattle.service_routes.proofs.routes.copy_at.Goals as goal

pub returns-in-Ok : goal.returns-in-Ok
returns-in-Ok c =
    let all = c.args.exporters.now.entries in
    let copies = c.args.copies.now.entries in
    let name = c.in-Some.name.now in
    let copy = c.in_ok-copy-in-Some.copy in
    let at = sym c.in-Some.ensures.entry in
    let absent = copied-absent copies all c.args.place name c.in-Some.part.now at c.len-known.ensures.unique c.requires in
    copied-more copies all c.insert.new.self.entries c.args.place name c.in-Some.part.now copy at c.in_ok-copy-in-Some.ensures
    (c.in-Ok.ensures.entries
    ∙ ap (λ (n : Name). insert_entry same_name copies n copy) c.in_ok-own_name-in-Some.ensures.cases
    ∙ insert_entry-new same_name c.args.copies.now name copy absent)
    c.requires
