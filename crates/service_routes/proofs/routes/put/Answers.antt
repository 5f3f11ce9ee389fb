-- a name that isn't there goes last
use Rattle.std.proofs.Common.{◌∙◌}
use Rattle.indexmap.proofs.CallerLemmas.{insert_entry-new}
use Rattle.service_routes.specs.Routes.{same_name}
use Rattle.service_routes.proofs.routes.put.Goals as goal

pub returns-clause-entries : goal.returns-clause-entries
returns-clause-entries c = c.in-Ok.ensures.entries ∙ insert_entry-new same_name c.args.exporters.now c.args.name c.args.part c.requires.absent
