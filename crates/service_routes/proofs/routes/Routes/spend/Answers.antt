-- no exporter has less room
use Rattle.std.proofs.Common.{◌≤◌, ◌++◌, ap, subst, unwrap_or}
use Rattle.std.specs.Map.{lookup}
use Rattle.service_routes.specs.Routes.{Table, room_for, same_name}
use Rattle.service_routes.specs.Tables.{rooms_in}
use Rattle.service_routes.proofs.Maps.{shown-kept}
use Rattle.service_routes.proofs.routes.Routes.spend.Goals as goal

pub returns-clause-room : goal.returns-clause-room
returns-clause-room c = λ other.
    let all = c.self.inside.exporters.entries in
    let ready = c.self.inside.ready.entries in
    let new = c.spend_of.new.exporters.entries in
    subst (λ n. n ≤ unwrap_or (lookup (same_name other) (rooms_in (new ++ ready))) 0) (ap (λ (t : Table). room_for other t) c.self.view_is)
    (shown-kept all ready new ready (λ o. c.spend_of.ensures.rooms o ready) other)
