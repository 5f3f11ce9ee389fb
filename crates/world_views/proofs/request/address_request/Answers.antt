-- whether the exporter is full goes by those that are opened before, and so does the number
use Rattle.std.proofs.Common.{◌≡◌, ◌∙◌, ◌+◌, ◌++◌, Bool, true, false, List, Err, ap, sym, subst, arith}
use Rattle.service_exporter.specs.Limit.{is_full, IsReserved}
use Rattle.service_exporter.specs.declared.error.RouteError.{RouteError}
use Rattle.service_exporter.specs.Routes.{Exporter}
use Rattle.service_routes.specs.Routes.{Name, exporter_of, pruned}
use Rattle.world_views.specs.addressing.Standing.{is_for_nobody}
use Rattle.world_views.specs.Changing.{count_of, opened_each}
use Rattle.world_views.specs.Viewing.{Tables, Publication, Addressing, addressing, publication, requested_if, reports_by, tables_at, with_effect}
use Rattle.world_views.specs.declared.changing.Opening.{Opening}
use Rattle.world_views.specs.declared.viewing.Report.{Report}
use Rattle.world_views.proofs.InTurn.{full_for_next, last_after, last_seen}
use Rattle.world_views.proofs.Requests.{opened_request, opened_reports, opened_noted, full_request, full_reports}
use Rattle.world_views.proofs.request.address_request.Goals as goal

pub returns-in_ok-address_on_route-in-Ok-clause-all : goal.returns-in_ok-address_on_route-in-Ok-clause-all
returns-in_ok-address_on_route-in-Ok-clause-all c =
    let r = c.args.request in
    let n = c.args.occasion.now in
    let os : List Opening = c.args.found.now.openings.items in
    let all = c.args.routes.now.exporters in
    let opened : List (Name × Exporter) = opened_each os (pruned n all) in
    let t : Tables = tables_at c.args.occasion.ready.now n c.args.occasion.sessions.now c.args.occasion.subscriptions.now all in
    let m : Publication = publication c.args.occasion.sending.publisher.now c.args.occasion.sending.message.now c.args.occasion.sending.word in
    let a : Addressing = addressing c.args.receivers.now.deliveries.items os in
    let nobody : Bool = is_for_nobody t.sessions t.subscriptions a.deliveries m.publisher r.exporter.now r.subject.now in
    let count : c.count_of-count.result ≡ count_of r.exporter.now os = c.count_of-count.ensures.count ∙ ap (count_of r.exporter.now) c.as_slice.ensures.value in
    let room : is_full 1 n (exporter_of r.exporter.now opened) ≡ false = full_for_next n c.count_of-count.result r.exporter.now os all false c.requires.noted count c.in-Ok.ensures.told.0 in
    let last : (exporter_of r.exporter.now opened).last ≡ (exporter_of r.exporter.now all).last + count_of r.exporter.now os =
    last_after r.exporter.now os (pruned n all) ∙ ap (λ k. k + count_of r.exporter.now os) (last_seen n r.exporter.now all) in
    let number : c.in-Ok.next + c.count_of-count.result ≡ (exporter_of r.exporter.now opened).last + 1 =
    (let told = c.in-Ok.ensures.told.1 in omega (arith, told, last, count)) in
    opened_request t m a opened r.exporter.now r.subject.now r.row.now r.reply.now nobody (c.in-Ok.next + c.count_of-count.result) _ _ number c.in_ok-address_on_route-in-Ok.ensures.all c.in_ok-address_on_route-in-Ok.ensures.openings
    ∙ ap (λ b. with_effect t m a (requested_if nobody b t m opened r.exporter.now r.subject.now r.row.now r.reply.now)) (sym room)

pub returns-in_ok-address_on_route-in-Ok-clause-reports : goal.returns-in_ok-address_on_route-in-Ok-clause-reports
returns-in_ok-address_on_route-in-Ok-clause-reports c =
    let r = c.args.request in
    let n = c.args.occasion.now in
    let os : List Opening = c.args.found.now.openings.items in
    let all = c.args.routes.now.exporters in
    let opened : List (Name × Exporter) = opened_each os (pruned n all) in
    let t : Tables = tables_at c.args.occasion.ready.now n c.args.occasion.sessions.now c.args.occasion.subscriptions.now all in
    let m : Publication = publication c.args.occasion.sending.publisher.now c.args.occasion.sending.message.now c.args.occasion.sending.word in
    let a : Addressing = addressing c.args.receivers.now.deliveries.items os in
    let before : List Report = c.args.found.now.reports.items in
    let nobody : Bool = is_for_nobody t.sessions t.subscriptions a.deliveries m.publisher r.exporter.now r.subject.now in
    let count : c.count_of-count.result ≡ count_of r.exporter.now os = c.count_of-count.ensures.count ∙ ap (count_of r.exporter.now) c.as_slice.ensures.value in
    let room : is_full 1 n (exporter_of r.exporter.now opened) ≡ false = full_for_next n c.count_of-count.result r.exporter.now os all false c.requires.noted count c.in-Ok.ensures.told.0 in
    ap (λ v. v.items) c.in_ok-address_on_route-in-Ok.ensures.reports
    ∙ opened_reports t m a opened r.exporter.now r.subject.now r.row.now r.reply.now nobody before
    ∙ ap (λ b. before ++ reports_by a (requested_if nobody b t m opened r.exporter.now r.subject.now r.row.now r.reply.now)) (sym room)

pub returns-in_ok-address_on_route-in-Ok-clause-noted : goal.returns-in_ok-address_on_route-in-Ok-clause-noted
returns-in_ok-address_on_route-in-Ok-clause-noted c =
    let r = c.args.request in
    let all = c.args.routes.now.exporters in
    let t : Tables = tables_at c.args.occasion.ready.now c.args.occasion.now c.args.occasion.sessions.now c.args.occasion.subscriptions.now all in
    let m : Publication = publication c.args.occasion.sending.publisher.now c.args.occasion.sending.message.now c.args.occasion.sending.word in
    let a : Addressing = addressing c.args.receivers.now.deliveries.items c.args.found.now.openings.items in
    opened_noted t m a all r.exporter.now r.subject.now r.row.now r.reply.now
    (is_for_nobody t.sessions t.subscriptions a.deliveries m.publisher r.exporter.now r.subject.now) c.address_on_route.new.found.openings.items c.in_ok-address_on_route-in-Ok.ensures.openings c.requires.noted

pub returns-in_ok-report_full-in-Err-RouteFull-clause-all : goal.returns-in_ok-report_full-in-Err-RouteFull-clause-all
returns-in_ok-report_full-in-Err-RouteFull-clause-all c =
    let r = c.args.request in
    let n = c.args.occasion.now in
    let os : List Opening = c.args.found.now.openings.items in
    let all = c.args.routes.now.exporters in
    let opened : List (Name × Exporter) = opened_each os (pruned n all) in
    let t : Tables = tables_at c.args.occasion.ready.now n c.args.occasion.sessions.now c.args.occasion.subscriptions.now all in
    let m : Publication = publication c.args.occasion.sending.publisher.now c.args.occasion.sending.message.now c.args.occasion.sending.word in
    let a : Addressing = addressing c.args.receivers.now.deliveries.items os in
    let nobody : Bool = is_for_nobody t.sessions t.subscriptions a.deliveries m.publisher r.exporter.now r.subject.now in
    let count : c.count_of-count.result ≡ count_of r.exporter.now os = c.count_of-count.ensures.count ∙ ap (count_of r.exporter.now) c.as_slice.ensures.value in
    let part : Exporter = exporter_of r.exporter.now all in
    let P : RouteError → Type 0 = λ e. IsReserved (is_full (c.count_of-count.result + 1) n part) part.last (Err e) in
    let full : is_full (c.count_of-count.result + 1) n part ≡ true = subst P c.in-Err-RouteFull.field-0-is c.in-Err-RouteFull.ensures.told in
    let room : is_full 1 n (exporter_of r.exporter.now opened) ≡ true = full_for_next n c.count_of-count.result r.exporter.now os all true c.requires.noted count full in
    full_request t m a opened r.exporter.now r.subject.now r.row.now r.reply.now nobody _ _ c.in_ok-report_full-in-Err-RouteFull.ensures.all (ap (λ v. v.items) c.in_ok-report_full-in-Err-RouteFull.ensures.openings)
    ∙ ap (λ b. with_effect t m a (requested_if nobody b t m opened r.exporter.now r.subject.now r.row.now r.reply.now)) (sym room)

pub returns-in_ok-report_full-in-Err-RouteFull-clause-reports : goal.returns-in_ok-report_full-in-Err-RouteFull-clause-reports
returns-in_ok-report_full-in-Err-RouteFull-clause-reports c =
    let r = c.args.request in
    let n = c.args.occasion.now in
    let os : List Opening = c.args.found.now.openings.items in
    let all = c.args.routes.now.exporters in
    let opened : List (Name × Exporter) = opened_each os (pruned n all) in
    let t : Tables = tables_at c.args.occasion.ready.now n c.args.occasion.sessions.now c.args.occasion.subscriptions.now all in
    let m : Publication = publication c.args.occasion.sending.publisher.now c.args.occasion.sending.message.now c.args.occasion.sending.word in
    let a : Addressing = addressing c.args.receivers.now.deliveries.items os in
    let before : List Report = c.args.found.now.reports.items in
    let nobody : Bool = is_for_nobody t.sessions t.subscriptions a.deliveries m.publisher r.exporter.now r.subject.now in
    let count : c.count_of-count.result ≡ count_of r.exporter.now os = c.count_of-count.ensures.count ∙ ap (count_of r.exporter.now) c.as_slice.ensures.value in
    let part : Exporter = exporter_of r.exporter.now all in
    let P : RouteError → Type 0 = λ e. IsReserved (is_full (c.count_of-count.result + 1) n part) part.last (Err e) in
    let full : is_full (c.count_of-count.result + 1) n part ≡ true = subst P c.in-Err-RouteFull.field-0-is c.in-Err-RouteFull.ensures.told in
    let room : is_full 1 n (exporter_of r.exporter.now opened) ≡ true = full_for_next n c.count_of-count.result r.exporter.now os all true c.requires.noted count full in
    full_reports t m a opened r.exporter.now r.subject.now r.row.now r.reply.now nobody before c.report_full.new.found.reports.items c.in_ok-report_full-in-Err-RouteFull.ensures.reports
    ∙ ap (λ b. before ++ reports_by a (requested_if nobody b t m opened r.exporter.now r.subject.now r.row.now r.reply.now)) (sym room)
