-- Where a message of an account is seen, by the policy in force and the response routes that live (docs/GUARANTEE.md, "Laws of
-- routing").
use Rattle.std.specs.Prelude.{◌≡◌, ◌<◌, ◌↔◌, ℕ, List, Option, Some, None, false, length, Any, Contains, IsSomeAnd}
use Rattle.subjects.specs.Subject.{Token}
use Rattle.events.specs.Messages.{Message}
use Rattle.policy_doc.specs.declared.exports.document.Row.{Row}
use Rattle.policy_doc.specs.Document.{IsValidPolicy}
use Rattle.policy_doc.specs.declared.document.PolicyDoc.{PolicyDoc}
use Rattle.policy_ready.specs.imports.Across.{across, source_of, views, way_of}
use Rattle.policy_ready.specs.imports.Laws.{IsExported, IsSeenBy}
use Rattle.policy_ready.specs.imports.Views.{is_route, rows_of}
use Rattle.policy_ready.specs.declared.imports.rows.ImportRow.{ImportRow}
use Rattle.policy_ready.specs.declared.imports.view.ViewItem.{ViewItem}
use Rattle.policy_ready.specs.declared.imports.view.ViewItem.TheVariants.{At, TooLong}
use Rattle.policy_ready.specs.declared.imports.view.Way.{Way}
use Rattle.policy_ready.specs.declared.imports.view.Way.TheVariants.{Own, Stream, Service, Response}
use Rattle.service_exporter.specs.service_subjects.Names.{route_subject}
use Rattle.service_exporter.specs.Routes.{Exporter, route_on}
use Rattle.service_exporter.specs.declared.route.Route.{Route}
use Rattle.service_routes.specs.Routes.{Name, exporter_of}
use Rattle.world.specs.Routing.{responses_on}

abbrev pub Routes : Type 0
Routes = List (Name × Exporter)

-- the views of what an account publishes on a subject
abbrev pub views_by : PolicyDoc → Routes → List ℕ → List Token → List ViewItem
views_by doc routes account s = views doc account s (responses_on routes account s)

-- A message that a user of an account publishes on a subject has a view in an account, on a local subject.
pub record IsSeen (doc : PolicyDoc) (routes : Routes) (account : List ℕ) (s : List Token) (into : List ℕ) (local : List Token) : Type 0 where
  pub way : Way
  pub view : Contains (views_by doc routes account s) (At into local way)

-- an import row is reported of it
abbrev pub IsReported : PolicyDoc → Routes → List ℕ → List Token → Row → Type 0
IsReported doc routes account s row = Contains (views_by doc routes account s) (TooLong row)

-- it is a request across an import row
abbrev pub IsRequested : PolicyDoc → Routes → List ℕ → List Token → Row → Type 0
IsRequested doc routes account s row = (into : List ℕ) × (local : List Token) × Contains (views_by doc routes account s) (At into local (Service row))

-- ---- how it is seen there

-- A request has the subject of a response route in place of its reply, and a response has no reply. Other messages have the reply
-- that they were published with.
abbrev pub HasRouteReply : Option (List Token) → Option (List Token) → Type 0
HasRouteReply None reply = reply ≡ None
HasRouteReply (Some published) reply = (word : ℕ) × (number : ℕ) × (reply ≡ Some (route_subject word number))

abbrev pub HasReply : Way → Option (List Token) → Option (List Token) → Type 0
HasReply Own published reply = reply ≡ published
HasReply (Stream row) published reply = reply ≡ published
HasReply (Service row) published reply = HasRouteReply published reply
HasReply (Response row) published reply = reply ≡ None

-- nothing but subject and reply is changed
abbrev pub IsSeenAs : Way → List Token → Message → Message → Type 0
IsSeenAs way local m seen = (seen ≡ record m { subject = local; reply = seen.reply }) × HasReply way m.reply seen.reply

-- ---- why it is seen there

-- A row of the policy takes it there: across a stream from the exporter to the importer, across a service the other way. An export
-- of the exporter lets the row in. A subject that begins with the token `_R_` crosses no row.
abbrev pub IsTaken : PolicyDoc → List ℕ → List Token → List ℕ → List Token → Way → Type 0
IsTaken doc account s into local way =
    (is_route s ≡ false) × Any (λ (r : ImportRow). (way_of r ≡ way) × IsSeenBy r account s into local × IsExported doc.accounts r) (rows_of doc)

-- It is a response: the account has a live route on the subject, which leads to the account that has asked, and to the reply of its
-- request.
abbrev pub IsAnswered : Routes → List ℕ → List Token → List ℕ → List Token → Row → Type 0
IsAnswered routes account s into local row =
    IsSomeAnd (route_on s (exporter_of account routes).routes) (λ (r : Route). (r.row ≡ row) × (row.importer ≡ into) × (r.reply ≡ local))

abbrev pub ComesBy : PolicyDoc → Routes → List ℕ → List Token → List ℕ → List Token → Way → Type 0
ComesBy doc routes account s into local Own = (into ≡ account) × (local ≡ s)
ComesBy doc routes account s into local (Stream row) = IsTaken doc account s into local (Stream row)
ComesBy doc routes account s into local (Service row) = IsTaken doc account s into local (Service row)
ComesBy doc routes account s into local (Response row) = IsAnswered routes account s into local row

-- a row would take it to a subject that is too long
abbrev pub IsTooLong : PolicyDoc → List ℕ → List Token → Row → Type 0
IsTooLong doc account s row =
    (is_route s ≡ false) × Any (λ (r : ImportRow). (r.row ≡ row) × (source_of r ≡ account) × IsSomeAnd (across r s) (λ t. 512 < length t)) (rows_of doc)

-- Each view of a message is its publisher's own, or a row of the policy takes it there, or it is the response on a route.
abbrev pub SeenByWays : Type 0
SeenByWays = (doc : PolicyDoc) → IsValidPolicy doc → (routes : Routes) (account : List ℕ) (s : List Token) (into : List ℕ) (local : List Token) (way : Way) →
    Contains (views_by doc routes account s) (At into local way) → ComesBy doc routes account s into local way

-- A row is reported exactly where it would take the message to a subject that is too long.
abbrev pub ReportedByRows : Type 0
ReportedByRows = (doc : PolicyDoc) → IsValidPolicy doc → (routes : Routes) (account : List ℕ) (s : List Token) (row : Row) →
    IsReported doc routes account s row ↔ IsTooLong doc account s row
