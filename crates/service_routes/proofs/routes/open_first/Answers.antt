-- what stood ready comes behind all others, with its first route
use Rattle.std.proofs.Common.{◌≡◌, ◌∙◌, ◌≤◌, ◌+◌, ◌++◌, ◌∷◌, [], List, None, ap, sym, subst, cond, arith}
use Rattle.std.specs.Map.{lookup}
use Rattle.service_exporter.specs.Routes.{WithRoom, with_route}
use Rattle.service_routes.specs.Routes.{Name, same_name}
use Rattle.service_routes.specs.Tables.{exporters_in, room_in}
use Rattle.service_routes.proofs.Maps.{key_found, opened-absent, room-appended}
use Rattle.service_routes.proofs.routes.open_first.Goals as goal

pub put-requires-clause-absent : goal.put-requires-clause-absent
put-requires-clause-absent c =
    subst (λ (n : Name). lookup (same_name n) c.args.exporters.now.entries ≡ None)
    (key_found c.args.exporter.now c.in-Some.name c.args.ready.now.entries (sym c.in-Some.ensures.key)) c.requires.absent

pub returns-clause-exporters : goal.returns-clause-exporters
returns-clause-exporters c =
    let all = c.args.exporters.now.entries in
    let same = key_found c.args.exporter.now c.in-Some.name c.args.ready.now.entries (sym c.in-Some.ensures.key) in
    ap exporters_in (c.put.ensures.entries ∙ ap (λ (n : Name). all ++ (n, c.open.new.self) ∷ []) (sym same))
    ∙ opened-absent c.args.exporter.now c.args.route all c.open.new.self c.requires.absent (c.open.ensures.exporter ∙ ap (with_route c.args.route) c.clear.ensures.exporter)

pub returns-clause-room : goal.returns-clause-room
returns-clause-room c = λ other.
    let name = c.args.exporter.now in
    let all = c.args.exporters.now.entries in
    let ready = c.args.ready.now.entries in
    let left = c.swap_remove_entry.new.self.entries in
    let same = key_found name c.in-Some.name ready (sym c.in-Some.ensures.key) in
    let new : c.put.new.exporters.entries ≡ all ++ (name, c.open.new.self) ∷ [] = c.put.ensures.entries ∙ ap (λ (n : Name). all ++ (n, c.open.new.self) ∷ []) (sym same) in
    subst (λ (es : List (Name × WithRoom)). room_in other all ready ≤ room_in other es left + cond (same_name name other) 1 0) (sym new)
    (room-appended name other all ready left c.in-Some.part c.open.new.self c.requires.absent (sym c.in-Some.ensures.value)
    (omega (arith, c.clear.ensures.room, c.open.ensures.room)) (λ apart. c.swap_remove_entry.ensures.updates.2 other apart))
