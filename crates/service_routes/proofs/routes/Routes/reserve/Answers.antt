-- the room of one exporter, which is there or stands ready
use Rattle.std.proofs.Common.{◌≡◌, ◌∙◌, ◌≤◌, ◌++◌, List, None, Some, OnOk, false, ap, sym, subst, refl, unwrap_or}
use Rattle.std.specs.Map.{lookup}
use Rattle.service_exporter.specs.Limit.{is_full, IsReserved}
use Rattle.service_exporter.specs.Routes.{Exporter, WithRoom, no_routes}
use Rattle.service_routes.specs.Routes.{Name, Table, exporter_of, room_for, same_name}
use Rattle.service_routes.specs.Tables.{exporters_in, rooms_in, room_in}
use Rattle.service_routes.proofs.Maps.{changed-same, changed-there, exporter-absent, exporter-there, found-written, ready_more, room-first, room-kept, room-there, shown-kept}
use Rattle.service_routes.proofs.routes.Routes.reserve.Goals as goal

pub returns-in-Some-clause-same : goal.returns-in-Some-clause-same
returns-in-Some-clause-same c =
    let written = c.get_mut.follows.holds c.reserve.new.self in
    ap exporters_in written.0
    ∙ changed-there c.args.exporter.now (λ e. e) c.self.inside.exporters.entries c.in-Some.part.now c.reserve.new.self (sym c.in-Some.ensures.value) c.reserve.ensures.same
    ∙ changed-same c.args.exporter.now (exporters_in c.self.inside.exporters.entries)
    ∙ ap (λ (t : Table). t.exporters) c.self.view_is

pub returns-in-Some-clause-told : goal.returns-in-Some-clause-told
returns-in-Some-clause-told c =
    let it : exporter_of c.args.exporter.now c.args.self.now.exporters ≡ c.in-Some.part.now.exporter =
    ap (λ (t : Table). exporter_of c.args.exporter.now t.exporters) (sym c.self.view_is)
    ∙ exporter-there c.args.exporter.now c.self.inside.exporters.entries c.in-Some.part.now (sym c.in-Some.ensures.value)
    in
    subst (λ (e : Exporter). IsReserved (is_full c.args.count c.args.now e) e.last c.reserve.result) (sym it) c.reserve.ensures.told

pub returns-in-Some-clause-ok : goal.returns-in-Some-clause-ok
returns-in-Some-clause-ok c =
    let name = c.args.exporter.now in
    let all = c.self.inside.exporters.entries in
    let ready = c.self.inside.ready.entries in
    let new = (c.get_mut.follows.lender c.reserve.new.self).entries in
    let written = c.get_mut.follows.holds c.reserve.new.self in
    let found : lookup (same_name name) new ≡ Some c.reserve.new.self =
    ap (λ (es : List (Name × WithRoom)). lookup (same_name name) es) written.0 ∙ found-written name all c.in-Some.part.now c.reserve.new.self (sym c.in-Some.ensures.value)
    in
    subst (λ n. OnOk c.reserve.result (c.args.count ≤ n)) (sym (room-there name new ready c.reserve.new.self found)) c.reserve.ensures.ok

pub returns-in-Some-clause-room : goal.returns-in-Some-clause-room
returns-in-Some-clause-room c = λ other.
    let name = c.args.exporter.now in
    let all = c.self.inside.exporters.entries in
    let ready = c.self.inside.ready.entries in
    let new = (c.get_mut.follows.lender c.reserve.new.self).entries in
    let written = c.get_mut.follows.holds c.reserve.new.self in
    subst (λ n. n ≤ unwrap_or (lookup (same_name other) (rooms_in (new ++ ready))) 0) (ap (λ (t : Table). room_for other t) c.self.view_is)
    (shown-kept all ready new ready
    (λ o. subst (λ (es : List (Name × WithRoom)). room_in o all ready ≤ room_in o es ready) (sym written.0) (room-kept name o all ready c.in-Some.part.now c.reserve.new.self (sym c.in-Some.ensures.value) c.reserve.ensures.room))
    other)

pub returns-in-Some-clause-enough : goal.returns-in-Some-clause-enough
returns-in-Some-clause-enough c = λ few fits.
    let name = c.args.exporter.now in
    let all = c.self.inside.exporters.entries in
    let room = ap (λ (t : Table). room_for name t) (sym c.self.view_is) ∙ room-there name all c.self.inside.ready.entries c.in-Some.part.now (sym c.in-Some.ensures.value) in
    let it : exporter_of name c.args.self.now.exporters ≡ c.in-Some.part.now.exporter =
    ap (λ (t : Table). exporter_of name t.exporters) (sym c.self.view_is) ∙ exporter-there name all c.in-Some.part.now (sym c.in-Some.ensures.value)
    in
    c.reserve.ensures.enough (subst (λ n. c.args.count ≤ n) room few) (subst (λ (e : Exporter). is_full c.args.count c.args.now e ≡ false) it fits)

pub returns-in-None-clause-enough : goal.returns-in-None-clause-enough
returns-in-None-clause-enough c = λ few fits.
    let name = c.args.exporter.now in
    let all = c.self.inside.exporters.entries in
    let room = ap (λ (t : Table). room_for name t) (sym c.self.view_is) ∙ room-first name all c.self.inside.ready.entries (sym c.in-None.ensures.value) in
    let none : exporter_of name c.args.self.now.exporters ≡ no_routes =
    ap (λ (t : Table). exporter_of name t.exporters) (sym c.self.view_is) ∙ exporter-absent name all (sym c.in-None.ensures.value)
    in
    c.reserve_first.ensures.enough (subst (λ n. c.args.count ≤ n) room few) (subst (λ (e : Exporter). is_full c.args.count c.args.now e ≡ false) none fits)

pub returns-in-None-clause-told : goal.returns-in-None-clause-told
returns-in-None-clause-told c =
    let none : exporter_of c.args.exporter.now c.args.self.now.exporters ≡ no_routes =
    ap (λ (t : Table). exporter_of c.args.exporter.now t.exporters) (sym c.self.view_is)
    ∙ exporter-absent c.args.exporter.now c.self.inside.exporters.entries (sym c.in-None.ensures.value)
    in
    subst (λ (e : Exporter). IsReserved (is_full c.args.count c.args.now e) e.last c.reserve_first.result) (sym none) c.reserve_first.ensures.told

pub returns-in-None-clause-ok : goal.returns-in-None-clause-ok
returns-in-None-clause-ok c =
    let name = c.args.exporter.now in
    let all = c.self.inside.exporters.entries in
    let new = c.reserve_first.new.exporters.entries in
    let left = c.reserve_first.new.ready.entries in
    let lent : c.get_mut.follows.lender-at-none.entries ≡ all = rw c.get_mut.follows.holds-at-none refl in
    let absent : lookup (same_name name) new ≡ None = ap (λ (es : List (Name × WithRoom)). lookup (same_name name) es) (c.reserve_first.ensures.same ∙ lent) ∙ sym c.in-None.ensures.value in
    subst (λ n. OnOk c.reserve_first.result (c.args.count ≤ n)) (sym (room-first name new left absent)) c.reserve_first.ensures.ok

pub returns-in-None-clause-room : goal.returns-in-None-clause-room
returns-in-None-clause-room c = λ other.
    let all = c.self.inside.exporters.entries in
    let ready = c.self.inside.ready.entries in
    let new = c.reserve_first.new.exporters.entries in
    let left = c.reserve_first.new.ready.entries in
    let lent : c.get_mut.follows.lender-at-none.entries ≡ all = rw c.get_mut.follows.holds-at-none refl in
    let same : new ≡ all = c.reserve_first.ensures.same ∙ lent in
    subst (λ n. n ≤ unwrap_or (lookup (same_name other) (rooms_in (new ++ left))) 0) (ap (λ (t : Table). room_for other t) c.self.view_is)
    (shown-kept all ready new left
    (λ o. subst (λ (es : List (Name × WithRoom)). room_in o all ready ≤ room_in o es left) (sym same)
    (ready_more (lookup (same_name o) all) (lookup (same_name o) ready) (lookup (same_name o) left) (c.reserve_first.ensures.room o)))
    other)
