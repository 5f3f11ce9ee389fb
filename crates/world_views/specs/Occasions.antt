-- A message on its occasion: the tables in which it is addressed, and what it is addressed to
-- (docs/ARCHITECTURE.md, "Decide, then do").
use Rattle.std.specs.Prelude.{ℕ, Bool, List, [], Some}
use Rattle.subjects.specs.Subject.{Token}
use Rattle.events.specs.Messages.{Message}
use Rattle.events.specs.declared.answer.Addressed.{Addressed}
use Rattle.policy_ready.specs.imports.Views.{rows_of}
use Rattle.policy_ready.specs.declared.imports.view.ViewItem.{ViewItem}
use Rattle.receivers.specs.views.CachedViews.{under_subject}
use Rattle.service_exporter.specs.Routes.{Exporter}
use Rattle.service_exporter.specs.service_subjects.Names.{route_subject}
use Rattle.service_routes.specs.Routes.{Name, pruned, spent}
use Rattle.world_sessions.specs.declared.deliveries.session.Session.{Session}
use Rattle.world_rows.specs.declared.subscription.Subscription.{Subscription}
use Rattle.world_views.specs.addressing.Standing.{addressed_behind_in, is_for_nobody}
use Rattle.world_views.specs.Requests.{responses_on}
use Rattle.world_views.specs.Viewing.{addressed_after, addressing, effect_of, opening_for, others_in, others_with, publication}
use Rattle.world_views.specs.Viewing.{reports_after, reports_by, request_in, seen_with, tables_at, with_effect}
use Rattle.world_views.specs.Viewing.{Addressing, Effect, Publication, Tables}
use Rattle.world_views.specs.declared.across.Publishing.{Publishing}
use Rattle.world_views.specs.declared.addressing.finding.Receivers.{Receivers}
use Rattle.world_views.specs.declared.addressing.finding.Sending.{Sending}
use Rattle.world_views.specs.declared.changing.Opening.{Opening}
use Rattle.world_views.specs.declared.request.Request.{Request}
use Rattle.world_views.specs.declared.viewing.Found.{Found}
use Rattle.world_views.specs.declared.viewing.Occasion.{Occasion}
use Rattle.world_views.specs.declared.viewing.Report.{Report}

-- the message that is sent
abbrev pub published : Sending → Publication
published s = publication s.publisher.now s.message.now s.word

-- the message under another subject, by its account's mappings
abbrev pub published_under : List Token → Sending → Publication
published_under subject s = publication s.publisher.now (under_subject subject s.message.now) s.word

-- the tables in which it is addressed, with these routes
abbrev pub tables_in : Occasion → List (Name × Exporter) → Tables
tables_in o routes = tables_at o.ready.now o.now o.sessions.now o.subscriptions.now routes

abbrev pub tables_under : Publishing → List Session → List Subscription → List (Name × Exporter) → Tables
tables_under p zs subs routes = tables_at p.ready.now p.now zs subs routes

-- what it is addressed to so far
abbrev pub so_far : Receivers → Found → Addressing
so_far all found = addressing all.deliveries.items found.openings.items

-- the deliveries in one more account of a message that is seen there as this one
abbrev pub seen_in : Occasion → List Addressed → Message → Name → List Addressed
seen_in o ds m account =
    addressed_behind_in o.sessions.now o.subscriptions.now ds o.sending.publisher.now m o.sending.word account

-- ---- in one more view, or in more

abbrev pub in_view : Occasion → List (Name × Exporter) → Addressing → ViewItem → Addressing
in_view o routes a v =
    with_effect (tables_in o routes) (published o.sending) a (effect_of (tables_in o routes) (published o.sending) a v)

abbrev pub reports_in_view : Occasion → List (Name × Exporter) → Addressing → ViewItem → List Report
reports_in_view o routes a v = reports_by a (effect_of (tables_in o routes) (published o.sending) a v)

abbrev pub in_each : Occasion → List (Name × Exporter) → Addressing → List ViewItem → Addressing
in_each o routes a views = addressed_after (tables_in o routes) (published o.sending) a views

abbrev pub reports_in_each : Occasion → List (Name × Exporter) → Addressing → List ViewItem → List Report
reports_in_each o routes a views = reports_after (tables_in o routes) (published o.sending) a views

-- those across rows under a subject
abbrev pub crossings_under : Occasion → List Token → List ViewItem
crossings_under o s = others_in (rows_of o.ready.now) o.sending.publisher.now.user.account s

-- that of the account which waits for a response on a subject
abbrev pub requesters_on : Occasion → List (Name × Exporter) → List Token → List ViewItem
requesters_on o routes s =
    others_with [] (responses_on (pruned o.now routes) o.sending.publisher.now.user.account s)
    o.sending.publisher.now.user.account s

-- the living routes once that of a subject is spent
abbrev pub spent_on : Occasion → List (Name × Exporter) → List Token → List (Name × Exporter)
spent_on o routes s = spent o.sending.publisher.now.user.account s (pruned o.now routes)

-- ---- a request

abbrev pub requested : Occasion → List (Name × Exporter) → Addressing → Request → Effect
requested o routes a r =
    request_in (tables_in o routes) (published o.sending) a r.exporter.now r.subject.now r.row.now (Some r.reply.now)

abbrev pub after_request : Occasion → List (Name × Exporter) → Addressing → Request → Addressing
after_request o routes a r = with_effect (tables_in o routes) (published o.sending) a (requested o routes a r)

abbrev pub reports_of_request : Occasion → List (Name × Exporter) → Addressing → Request → List Report
reports_of_request o routes a r = reports_by a (requested o routes a r)

-- whether nobody may be sent it
abbrev pub is_in_vain : Occasion → List Addressed → Request → Bool
is_in_vain o ds r =
    is_for_nobody o.sessions.now o.subscriptions.now ds o.sending.publisher.now r.exporter.now r.subject.now

-- its deliveries once it has the subject of the exporter's route of this number in place of its reply
abbrev pub seen_on_route : Occasion → List Addressed → Request → ℕ → List Addressed
seen_on_route o ds r number =
    seen_in o ds (seen_with r.subject.now (Some (route_subject o.sending.word number)) o.sending.message.now) r.exporter.now

abbrev pub opening_of : Occasion → Request → Opening
opening_of o r = opening_for r.exporter.now o.ready.now r.row.now r.reply.now o.sending.word o.now
