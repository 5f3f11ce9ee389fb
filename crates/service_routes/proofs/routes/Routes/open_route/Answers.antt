-- one route more of the exporter, for which there was room
use Rattle.std.proofs.Common.{◌≡◌, ◌∙◌, ◌≤◌, ◌<◌, ◌+◌, ◌++◌, List, ap, sym, subst, cond, length, refl, unwrap_or}
use Rattle.std.specs.Map.{lookup}
use Rattle.service_exporter.specs.Routes.{Exporter, WithRoom, living}
use Rattle.service_routes.specs.Routes.{Name, Table, exporter_of, opened, room_for, same_name}
use Rattle.service_routes.specs.Tables.{exporters_in, rooms_in, room_in}
use Rattle.service_routes.proofs.Maps.{exporter-there, has_number, opened-there, room-first, room-there, room-written, shown-less}
use Rattle.service_routes.proofs.routes.Routes.open_route.Goals as goal

pub open-requires-clause-room : goal.open-requires-clause-room
open-requires-clause-room c =
    subst (λ n. 0 < n)
    (ap (λ (t : Table). room_for c.args.exporter.now t) (sym c.self.view_is)
    ∙ room-there c.args.exporter.now c.self.inside.exporters.entries c.self.inside.ready.entries c.in-Some.part.now (sym c.in-Some.ensures.value))
    c.requires.room

pub open-requires-clause-within : goal.open-requires-clause-within
open-requires-clause-within c =
    let x = exporter_of c.args.exporter.now c.args.self.now.exporters in
    let it : x ≡ c.in-Some.part.now.exporter =
    ap (λ (t : Table). exporter_of c.args.exporter.now t.exporters) (sym c.self.view_is)
    ∙ exporter-there c.args.exporter.now c.self.inside.exporters.entries c.in-Some.part.now (sym c.in-Some.ensures.value)
    in
    subst (λ (e : Exporter). e.last < 18446744073709551615) it (has_number (length (living c.args.route.noted x.routes)) x.last c.requires.within)

pub open_first-requires-clause-room : goal.open_first-requires-clause-room
open_first-requires-clause-room c =
    subst (λ n. 0 < n)
    (ap (λ (t : Table). room_for c.args.exporter.now t) (sym c.self.view_is)
    ∙ room-first c.args.exporter.now c.self.inside.exporters.entries c.self.inside.ready.entries (sym c.in-None.ensures.value))
    c.requires.room

pub returns-in-Some-clause-exporters : goal.returns-in-Some-clause-exporters
returns-in-Some-clause-exporters c =
    let written = c.get_mut.follows.holds c.open.new.self in
    ap exporters_in written.0
    ∙ opened-there c.args.exporter.now c.args.route c.self.inside.exporters.entries c.in-Some.part.now c.open.new.self (sym c.in-Some.ensures.value) c.open.ensures.exporter
    ∙ ap (λ (t : Table). opened c.args.exporter.now c.args.route t.exporters) c.self.view_is

pub returns-in-Some-clause-room : goal.returns-in-Some-clause-room
returns-in-Some-clause-room c = λ other.
    let name = c.args.exporter.now in
    let all = c.self.inside.exporters.entries in
    let ready = c.self.inside.ready.entries in
    let new = (c.get_mut.follows.lender c.open.new.self).entries in
    let less = cond (same_name name other) 1 0 in
    let written = c.get_mut.follows.holds c.open.new.self in
    let kept : room_in other all ready ≤ room_in other new ready + less =
    subst (λ (es : List (Name × WithRoom)). room_in other all ready ≤ room_in other es ready + less) (sym written.0)
    (room-written name other all ready c.in-Some.part.now c.open.new.self 1 (sym c.in-Some.ensures.value) c.open.ensures.room)
    in
    subst (λ n. n ≤ unwrap_or (lookup (same_name other) (rooms_in (new ++ ready))) 0 + less) (ap (λ (t : Table). room_for other t) c.self.view_is)
    (shown-less other all ready new ready less kept)

pub returns-in-None-clause-room : goal.returns-in-None-clause-room
returns-in-None-clause-room c = λ other.
    let all = c.self.inside.exporters.entries in
    let ready = c.self.inside.ready.entries in
    let new = c.open_first.new.exporters.entries in
    let left = c.open_first.new.ready.entries in
    let less = cond (same_name c.args.exporter.now other) 1 0 in
    let same : c.get_mut.follows.lender-at-none.entries ≡ all = rw c.get_mut.follows.holds-at-none refl in
    let kept : room_in other all ready ≤ room_in other new left + less =
    subst (λ (es : List (Name × WithRoom)). room_in other es ready ≤ room_in other new left + less) same (c.open_first.ensures.room other)
    in
    subst (λ n. n ≤ unwrap_or (lookup (same_name other) (rooms_in (new ++ left))) 0 + less) (ap (λ (t : Table). room_for other t) c.self.view_is)
    (shown-less other all ready new left less kept)
