-- Requests and their responses (docs/GUARANTEE.md, "Response routes").
use Rattle.std.specs.Prelude.{◌+◌, ℕ, List, []}
use Rattle.std.specs.List.{cons_option}
use Rattle.std.specs.Option.{option_map}
use Rattle.subjects.specs.Subject.{Token}
use Rattle.policy_doc.specs.declared.exports.document.Row.{Row}
use Rattle.policy_ready.specs.declared.imports.view.ViewItem.{ViewItem}
use Rattle.policy_ready.specs.declared.imports.view.ViewItem.TheVariants.{At}
use Rattle.policy_ready.specs.declared.imports.view.Way.TheVariants.{Response}
use Rattle.policy_doc.specs.declared.document.PolicyDoc.{PolicyDoc}
use Rattle.service_exporter.specs.service_subjects.Names.{route_subject}
use Rattle.service_exporter.specs.Routes.{Exporter, route_on}
use Rattle.service_exporter.specs.declared.route.Route.{Route}
use Rattle.service_routes.specs.Routes.{Name, exporter_of}
use Rattle.service_routes.specs.service_rows.Rows.{terms_of}

-- the response that an account's message on this subject is, as the account that has asked sees it: on the reply of its request
abbrev pub response_by : Route → ViewItem
response_by r = At r.row.importer r.reply (Response r.row)

-- it is one where the account has a route on the subject
abbrev pub responses_on : List (Name × Exporter) → List ℕ → List Token → List ViewItem
responses_on routes account s = cons_option (option_map response_by (route_on s (exporter_of account routes).routes)) []

-- the route of a request across a row, on the terms that the row has
abbrev pub route_for : PolicyDoc → Row → List Token → ℕ → ℕ → Route
route_for doc row reply word now = record { word = word; row = row; reply = reply; noted = now; terms = terms_of doc row }

-- the subject of an exporter's next route
abbrev pub next_subject : ℕ → Exporter → List Token
next_subject word e = route_subject word (e.last + 1)
